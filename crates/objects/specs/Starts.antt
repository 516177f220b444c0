-- An object at its beginning.
use Rattle.std.specs.Prelude.{◌≡◌, ℕ, Bool, List}
use Rattle.table.specs.Description.{Description}
use Rattle.rules.specs.Reading.{Object, Objects, content, all_zero}
use Rattle.objects.specs.Ahead.{Inner, inner_run, Fit}

pub record Begun (d : Description) (class : ℕ) (c : Inner) : Type 0 where
  -- what lies ahead is what an object of the class holds
  pub same : (bits : List Bool) (o : Object) (p : ℕ) (obj : Objects)
      → inner_run d bits o c p obj ≡ content d bits obj o class (record { place = p; names = all_zero })
  pub fit : Fit d c.frames
