use Rattle.std.proofs.Common.{◌≡◌, List, ◌∷◌, ap, ◌∙◌, subst}
use Rattle.table.specs.Description.{description}
use Rattle.rules.specs.Reading.{Objects}
use Rattle.objects.specs.declared.frame.Frame.{Frame}
use Rattle.objects.specs.declared.frame.Frame.TheVariants.{Lines, After}
use Rattle.objects.specs.Frames.{frames}
use Rattle.objects.specs.Ahead.{Inner, inner_of, object_of, onto, state, content_run, inner_run, Fit}
use Rattle.objects.proofs.Passing.{after_run, after_fit, moved_later}
use Rattle.objects.proofs.inside.Inside.turn.Goals as goal

pub line-requires-in-Some-After : goal.line-requires-in-Some-After
line-requires-in-Some-After g c =
    let d = description c.args.scene.now.tables.now in
    let e = rw c.in-Some-After.field-0-is at c.in-Some-After.ensures in
    after_fit d c.in-Some-After.at c.in-Some-After.count (frames c.pop.new.self) (subst (Fit d) e c.requires)

pub returns-in-Some-After : goal.returns-in-Some-After
returns-in-Some-After g c =
    let d = description c.args.scene.now.tables.now in
    let o = object_of c.args.scene.now.about in
    let p = c.args.scene.now.place in
    let i = c.args.self.now in
    let at = c.in-Some-After.at in
    let count = c.in-Some-After.count in
    let e : frames i.frames ≡ After at count ∷ frames c.pop.new.self = rw c.in-Some-After.field-0-is at c.in-Some-After.ensures in
    let under : Inner = record { frames = frames c.pop.new.self; extension = i.extension; names = (inner_of i).names } in
    record {
      moved = λ B l.
          moved_later d B o (λ (obj : Objects). inner_run d B o (onto (Lines at count) under) p obj) 1 p c.line-in-Some-After.result (inner_of c.line-in-Some-After.new.self)
          (λ obj. ap (λ (fs : List Frame). content_run d B obj o i.extension fs (state p under)) e ∙ after_run d B o under p at count obj)
          (c.line-in-Some-After.ensures.moved B l);
      bound = λ h. c.line-in-Some-After.ensures.bound h;
    }
