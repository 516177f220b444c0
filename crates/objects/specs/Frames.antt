-- What an open object has to do, as a list: what comes first is first.
use Rattle.std.specs.Prelude.{◌≡◌, min, List, [], ◌∷◌, Some, None, Option}
use Rattle.objects.specs.declared.frame.Frame.{Frame}
use Rattle.objects.specs.declared.frame.Frame.TheVariants.{Lines}
use Rattle.objects.specs.declared.frames.Frames.{Frames}
use Rattle.objects.specs.Tops.{tops}

unfoldable pub frames : Frames → List Frame
frames f = tops (Lines 0 0) f.room (min f.depth 20)

abbrev pub Popped : List Frame → Option Frame → List Frame → Type 0
Popped before None after = (before ≡ []) × (after ≡ [])
Popped before (Some f) after = before ≡ f ∷ after
