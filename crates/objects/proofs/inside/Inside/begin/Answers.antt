use Rattle.std.proofs.Common.{◌≡◌, ◌≤◌, List, [], ◌∷◌, length, sym, ap, ◌∙◌, subst, arith}
use Rattle.records.specs.declared.records.Extension.{Extension}
use Rattle.records.specs.declared.stretches.Stretch.{Stretch}
use Rattle.table.specs.Description.{description}
use Rattle.objects.specs.declared.frame.Frame.TheVariants.{Lines}
use Rattle.objects.specs.Frames.{frames}
use Rattle.objects.specs.Ahead.{Inner, inner_of}
use Rattle.objects.specs.Starts.{Begun}
use Rattle.objects.proofs.Begins.{begun_none, begun_some}
use Rattle.objects.proofs.inside.Inside.begin.Goals as goal

pub returns-then-class-eq0 : goal.returns-then-class-eq0
returns-then-class-eq0 c =
    let d = description c.args.tables.now in
    let h : length d.extensions ≤ length c.deref-extensions.result.now =
    subst (λ (es : List Extension). length d.extensions ≤ length es) (sym c.deref-extensions.ensures.value) (omega arith) in
    let same : ◌≡◌ {A = Inner} (record { frames = (inner_of c.clear.new.self).frames; extension = length c.deref-extensions.result.now; names = (inner_of c.clear.new.self).names }) _ =
    λ i. record { frames = (c.clear.ensures i).frames; extension = length c.deref-extensions.result.now; names = (c.clear.ensures i).names } in
    subst (λ (x : Inner). Begun d c.args.class x) (sym same) (begun_none d c.args.class (length c.deref-extensions.result.now) c.if-class-eq0.true h)

pub returns : goal.returns
returns c =
    let d = description c.args.tables.now in
    let own = c.from-2.ensures ∙ ap (λ (s : Stretch). Lines s.first s.number) c.from.ensures in
    let base = c.from-4.ensures ∙ ap (λ (s : Stretch). Lines s.first s.number) c.from-3.ensures in
    let fs : frames c.push_both.new.self
    ≡ Lines c.class-base.result.first c.class-base.result.number ∷ Lines c.class-own.result.first c.class-own.result.number ∷ [] =
    c.push_both.ensures ∙ (λ i. base i ∷ own i ∷ (c.clear.ensures i).frames) in
    let same : ◌≡◌ {A = Inner} (record { frames = frames c.push_both.new.self; extension = (inner_of c.clear.new.self).extension; names = (inner_of c.clear.new.self).names }) _ =
    λ i. record { frames = fs i; extension = (c.clear.ensures i).extension; names = (c.clear.ensures i).names } in
    subst (λ (x : Inner). Begun d c.args.class x) (sym same)
    (begun_some d c.args.class c.class-own.result c.class-base.result (omega arith) c.class-own.ensures c.class-base.ensures c.requires)
