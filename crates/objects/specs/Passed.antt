-- Silent steps before what follows.
use Rattle.std.specs.Prelude.{ℕ, zero, suc}
use Rattle.rules.specs.Trace.{Run, out, pass, stop, done}

-- so many silent steps, and then a run
abbrev pub passed : {A : Type 0} → ℕ → Run A → Run A
passed zero t = t
passed (suc n) t = pass (passed n t)

-- how many silent steps stand before anything else of a run
unfoldable pub passes : {A : Type 0} → Run A → ℕ
passes (out i t) = 0
passes (pass t) = suc (passes t)
passes (stop f) = 0
passes (done a) = 0
