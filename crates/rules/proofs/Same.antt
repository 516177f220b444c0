-- What a newer description answers as the older does: entries, nodes, maps and code.
use Rattle.std.proofs.Common.{◌≡◌, ℕ, zero, suc, ◌+◌, ◌-◌, ◌<◌, ◌≤◌, min, Bool, true, false, cond, not, T, eqb, ltb, List, length, get_or, ℤ, Ok, refl, ap, ◌∙◌, arith, ltb→lt, Some, None, Option}
use lib.ListN.{get_or-append}
use Rattle.records.specs.declared.records.Line.{Line}
use Rattle.rules.specs.Checks.{Check, pick, then}
use Rattle.records.specs.Classes.{is_member}
use Rattle.table.specs.Description.{Description, entry, no_line, no_node, no_row, no_map, no_class, node_at, row_at, map_at, class_at, line_at}
use Rattle.rules.specs.Lookups.{output, find_row, map_output, greatest}
use Rattle.rules.specs.declared.terms.Term.{Term}
use Rattle.rules.specs.declared.terms.Term.TheVariants.{Constant, Named, OwnSize, Apply}
use Rattle.rules.specs.Terms.{term}
use Rattle.rules.specs.Values.{Names, term_value, before, value_within, value, of_node, applied}
use Rattle.records.specs.declared.statements.Statement.{Statement}
use Rattle.records.specs.declared.statements.Statement.TheVariants.{Read, Assign, MapRead, Use, If, While}
use Rattle.records.specs.Statements.{statement}
use Rattle.rules.specs.Code.{Code, finish, read, assign, map_read, use_of, branch, while, coded, code_within, code}
use Rattle.rules.specs.Growth.{Begins, Grown}
use Rattle.checked.specs.Sound.{Sound}
use Rattle.rules.proofs.NodeFacts.{TermSound, term_sound}

pub entry-same : {A : Type 0} (xs ys : List A) → Begins xs ys → (k : ℕ) → k ≤ length xs → (x : A) → entry ys k x ≡ entry xs k x
unfolding entry
entry-same xs ys b zero h x = refl
entry-same xs ys b (suc k) h x = ap (λ l. get_or l k x) b.1 ∙ get_or-append xs b.0 x k h

pub pick_same : {A : Type 0} (b : Bool) (f g u v : Unit {0} → A) → (T b → f tt ≡ u tt) → (T (not b) → g tt ≡ v tt) → pick b f g ≡ pick b u v
pick_same true f g u v x y = x tt
pick_same false f g u v x y = y tt

pub before_same : (k : ℕ) (f g : ℕ → Check ℤ) → ((j : ℕ) → j < k → f j ≡ g j) → (j : ℕ) → before k f j ≡ before k g j
before_same k f g h j = pick_same (ltb j k) _ _ _ _ (λ t. h j (ltb→lt j k t)) (λ t. refl)

-- code all of whose lines have a property
abbrev pub Each : (Option Statement → ℕ → Type 0) → Code → Type 0
Each P finish = Unit {0}
Each P (read line l k) = P (Some (Read l)) line × Each P k
Each P (assign line name node k) = P (Some (Assign name node)) line × Each P k
Each P (map_read line m name k) = P (Some (MapRead m name)) line × Each P k
Each P (use_of line l k) = P (Some (Use l)) line × Each P k
Each P (branch line node a b k) = ((first : ℕ) × (second : ℕ) × P (Some (If node first second)) line) × Each P a × Each P b × Each P k
Each P (while line node most b k) = ((lines : ℕ) × P (Some (While node lines most)) line) × Each P b × Each P k

pub each_all : (P : Option Statement → ℕ → Type 0) → ((st : Option Statement) (line : ℕ) → P st line) → (c : Code) → Each P c
each_all P h finish = tt
each_all P h (read line l k) = (h (Some (Read l)) line, each_all P h k)
each_all P h (assign line name node k) = (h (Some (Assign name node)) line, each_all P h k)
each_all P h (map_read line m name k) = (h (Some (MapRead m name)) line, each_all P h k)
each_all P h (use_of line l k) = (h (Some (Use l)) line, each_all P h k)
each_all P h (branch line node a b k) = ((0, 0, h (Some (If node 0 0)) line), each_all P h a, each_all P h b, each_all P h k)
each_all P h (while line node most b k) = ((0, h (Some (While node 0 most)) line), each_all P h b, each_all P h k)

module _ (P : Option Statement → ℕ → Type 0) where
  coded_each : (st : Option Statement) (at k : ℕ) (block : ℕ → ℕ → Code) → P st at →
      ((m n : ℕ) → at < m → m + n ≤ at + suc k → Each P (block m n)) → Each P (coded st at k block)
  unfolding coded
  coded_each (Some (Read fields)) at k block p h = (p, h (suc at) k (omega arith) (omega arith))
  coded_each (Some (Assign name node)) at k block p h = (p, h (suc at) k (omega arith) (omega arith))
  coded_each (Some (MapRead map name)) at k block p h = (p, h (suc at) k (omega arith) (omega arith))
  coded_each (Some (Use fields)) at k block p h = (p, h (suc at) k (omega arith) (omega arith))
  coded_each (Some (If node first second)) at k block p h =
      ((first, second, p), h _ _ (omega arith) (omega arith), h _ _ (omega arith) (omega arith), h _ _ (omega arith) (omega arith))
  coded_each (Some (While node lines rounds)) at k block p h = ((lines, p), h _ _ (omega arith) (omega arith), h _ _ (omega arith) (omega arith))
  coded_each None at k block p h = h (suc at) k (omega arith) (omega arith)

  pub code_each : (lines : List Line) (low high : ℕ) →
      ((at : ℕ) → low ≤ at → at < high → P (statement (entry lines at no_line)) at) →
      (f at n : ℕ) → low ≤ at → at + n ≤ high → Each P (code_within f lines at n)
  unfolding code_within
  code_each lines low high p zero at n x y = tt
  code_each lines low high p (suc f) at zero x y = tt
  code_each lines low high p (suc f) at (suc k) x y =
      coded_each (statement (entry lines at no_line)) at k (code_within f lines)
      (p at x (omega arith))
      (λ m n u v. code_each lines low high p f m n (omega arith) (omega arith))

pub coded_same : (st : Option Statement) (at k : ℕ) (block block' : ℕ → ℕ → Code) →
    ((m n : ℕ) → at < m → m + n ≤ at + suc k → block m n ≡ block' m n) → coded st at k block ≡ coded st at k block'
unfolding coded
coded_same (Some (Read fields)) at k block block' h = ap (read at fields) (h (suc at) k (omega arith) (omega arith))
coded_same (Some (Assign name node)) at k block block' h = ap (assign at name node) (h (suc at) k (omega arith) (omega arith))
coded_same (Some (MapRead map name)) at k block block' h = ap (map_read at map name) (h (suc at) k (omega arith) (omega arith))
coded_same (Some (Use fields)) at k block block' h = ap (use_of at fields) (h (suc at) k (omega arith) (omega arith))
coded_same (Some (If node first second)) at k block block' h =
    let m = min first k in
    let n = min second (k - m) in
    let a = h (suc at) m (omega arith) (omega arith) in
    let b = h (suc at + m) n (omega arith) (omega arith) in
    let c = h (suc at + m + n) (k - m - n) (omega arith) (omega arith) in
    λ x. branch at node (a x) (b x) (c x)
coded_same (Some (While node lines rounds)) at k block block' h =
    let m = min lines k in
    let a = h (suc at) m (omega arith) (omega arith) in
    let b = h (suc at + m) (k - m) (omega arith) (omega arith) in
    λ x. while at node rounds (a x) (b x)
coded_same None at k block block' h = h (suc at) k (omega arith) (omega arith)

module _ (older newer : Description) (gr : Grown older newer) where
  pub class_same : (c : ℕ) → c ≤ length older.classes → class_at newer c ≡ class_at older c
  class_same c h = entry-same older.classes newer.classes gr.classes c h no_class

  pub line_same : (n : ℕ) → n ≤ length older.lines → line_at newer n ≡ line_at older n
  line_same n h = entry-same older.lines newer.lines gr.lines n h no_line

  pub node_same : (k : ℕ) → k ≤ length older.nodes → node_at newer k ≡ node_at older k
  node_same k h = entry-same older.nodes newer.nodes gr.nodes k h no_node

  pub map_same : (m : ℕ) → m ≤ length older.maps → map_at newer m ≡ map_at older m
  map_same m h = entry-same older.maps newer.maps gr.maps m h no_map

  pub row_same : (r : ℕ) → r ≤ length older.rows → row_at newer r ≡ row_at older r
  row_same r h = entry-same older.rows newer.rows gr.rows r h no_row

  pub code_within_same : (f at n : ℕ) → at + n ≤ suc (length older.lines) → code_within f newer.lines at n ≡ code_within f older.lines at n
  unfolding code_within
  code_within_same zero at n h = refl
  code_within_same (suc f) at zero h = refl
  code_within_same (suc f) at (suc k) h =
      ap (λ l. coded (statement l) at k (code_within f newer.lines)) (line_same at (omega arith)) ∙
      coded_same (statement (line_at older at)) at k (code_within f newer.lines) (code_within f older.lines)
      (λ m n u v. code_within_same f m n (omega arith))

  pub code_same : (at n : ℕ) → at + n ≤ suc (length older.lines) → code newer.lines at n ≡ code older.lines at n
  unfolding code
  code_same at n h = code_within_same n at n h

  find_row_same : (at n index : ℕ) → at + n ≤ suc (length older.rows) → find_row newer at n index ≡ find_row older at n index
  unfolding find_row
  find_row_same at zero index h = refl
  find_row_same at (suc n) index h =
      ap (λ r. pick (eqb r.index index) (λ _. Ok (output r)) (λ _. find_row newer (suc at) n index)) (row_same at (omega arith)) ∙
      ap (λ v. pick (eqb (row_at older at).index index) (λ _. Ok (output (row_at older at))) (λ _. v)) (find_row_same (suc at) n index (omega arith))

  module _ (so : Sound older) where
    pub map_output_same : (m : ℕ) → m ≤ length older.maps → (index : ℕ) → map_output newer m index ≡ map_output older m index
    map_output_same m h index =
        ap (λ e. find_row newer e.first e.number index) (map_same m h) ∙
        find_row_same (map_at older m).first (map_at older m).number index (so.maps m h)

    pub greatest_same : (c : ℕ) → c ≤ length older.classes → greatest newer c ≡ greatest older c
    greatest_same c h =
        ap (λ e. cond (is_member e) (class_at newer e.base).greatest e.greatest) (class_same c h) ∙
        ap (λ e. cond (is_member (class_at older c)) e.greatest (class_at older c).greatest) (class_same (class_at older c).base (so.bases c h))

    -- names that are equal as far as the older has them
    abbrev pub Agree : Names → Names → Type 0
    Agree new old = (m : ℕ) → m ≤ length older.names → new m ≡ old m

    term_value_same : (k : ℕ) (t : Option Term) (size : ℕ) (new old : Names) (f g : ℕ → Check ℤ) → Agree new old → TermSound older t →
        ((j : ℕ) → f j ≡ g j) → term_value k t new size f ≡ term_value k t old size g
    unfolding term_value
    term_value_same k (Some (Constant v)) size new old f g ag ok e = refl
    term_value_same k (Some (Named n)) size new old f g ag ok e = ap (λ z. Ok z) (ag n ok)
    term_value_same k (Some OwnSize) size new old f g ag ok e = refl
    term_value_same k (Some (Apply operator left right)) size new old f g ag ok e =
        λ i. then (e left i) λ x. then (e right i) λ y. of_node k (applied operator x y)
    term_value_same k None size new old f g ag ok e = refl

    module _ (size : ℕ) (new old : Names) (ag : Agree new old) where
      within_same : (f k : ℕ) → k ≤ length older.nodes → value_within f newer.nodes size new k ≡ value_within f older.nodes size old k
      unfolding value_within
      within_same zero k h = refl
      within_same (suc f) k h =
          ap (λ n. term_value k (term n) new size (before k (value_within f newer.nodes size new))) (node_same k h) ∙
          term_value_same k (term (node_at older k)) size new old _ _ ag (term_sound older (node_at older k) (so.nodes k h))
          (before_same k _ _ (λ j z. within_same f j (omega arith)))

      pub value_same : (k : ℕ) → k ≤ length older.nodes → value newer.nodes size new k ≡ value older.nodes size old k
      unfolding value
      value_same k h = within_same (suc k) k h
