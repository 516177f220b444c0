-- The top class, extensions, uses and look-aheads where they belong.
use Rattle.std.specs.Prelude.{ℕ, Bool, false, not, ◌&&◌, ◌||◌, ◌==◌, nat_lt, Option, Some, None}
use Rattle.records.specs.Classes.{is_base, is_member}
use Rattle.records.specs.declared.statements.Statement.{Statement}
use Rattle.records.specs.declared.statements.Statement.TheVariants.{Read, Assign, MapRead, Use, If, While}
use Rattle.table.specs.Description.{Description, class_at, extension_at, statement_at}
use Rattle.passes.specs.Families.{expandable}

-- the top class is a member
abbrev pub top_place : Description → Bool
top_place d = is_member (class_at d d.top)

-- an extension of a base, or of what is not expandable
abbrev pub extension_place : Description → ℕ → Bool
extension_place d n = is_base (class_at d (extension_at d n).class) || not (expandable d (extension_at d n).class)

-- a use without a count is of an expandable family, from least to most elements
abbrev pub uncounted_wrong : Description → (class least most : ℕ) → Bool
uncounted_wrong d class least most = not (is_base (class_at d class) && expandable d class) || nat_lt most least || most == 0

-- a used class is no member
abbrev pub use_wrong : Description → (class count least most : ℕ) → Bool
use_wrong d class count least most = is_member (class_at d class) || count == 0 && uncounted_wrong d class least most

-- look-ahead with a count
abbrev pub read_wrong : (ahead count : ℕ) → Bool
read_wrong ahead count = not (ahead == 0) && not (count == 0)

abbrev pub statement_wrong : Description → Option Statement → Bool
statement_wrong d (Some (Read fields)) = read_wrong fields.ahead fields.count
statement_wrong d (Some (Assign name node)) = false
statement_wrong d (Some (MapRead map name)) = false
statement_wrong d (Some (Use fields)) = use_wrong d fields.class fields.count fields.least fields.most
statement_wrong d (Some (If node first second)) = false
statement_wrong d (Some (While node lines rounds)) = false
statement_wrong d None = false

abbrev pub line_place : Description → ℕ → Bool
line_place d n = statement_wrong d (statement_at d n)
