use Rattle.std.proofs.Common.{◌≡◌, ap, ap₂, ◌∙◌, arith}
use Rattle.embed.specs.Gets.{places_swept, taken}
use Rattle.embed.proofs.Swept.{no_place, one_place}
use Rattle.embed.proofs.gets.sweep_places.Goals as goal

pub loop-place-init : goal.loop-place-init
loop-place-init g c = no_place (g.S.Source.bits c.args.source.now) c.args.round c.args.before

pub loop-place-preserved : goal.loop-place-preserved
loop-place-preserved g c =
    c.taken-all.ensures ∙ ap₂ taken c.loop-place.invariant c.get.ensures ∙ one_place (g.S.Source.bits c.args.source.now) c.args.round c.args.before c.loop-place.place

pub returns : goal.returns
returns g c =
    let e : c.loop-place.place ≡ 8000 = omega arith in
    c.loop-place.invariant ∙ ap (places_swept (g.S.Source.bits c.args.source.now) c.args.round c.args.before) e
