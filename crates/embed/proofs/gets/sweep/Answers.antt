use Rattle.std.proofs.Common.{◌≡◌, ℕ, ap, ◌∙◌, arith}
use Rattle.embed.specs.Gets.{places_swept, rounds_swept}
use Rattle.embed.proofs.Swept.{no_round, one_round}
use Rattle.embed.proofs.gets.sweep.Goals as goal

pub loop-round-init : goal.loop-round-init
loop-round-init g c = no_round (g.S.Source.bits c.args.source.now)

pub loop-round-preserved : goal.loop-round-preserved
loop-round-preserved g c =
    let bits = g.S.Source.bits c.args.source.now in
    let n = c.loop-round.round in
    c.sweep_places-all.ensures ∙ ap (λ (all : ℕ). places_swept bits n all 8000) c.loop-round.invariant ∙ one_round bits n

pub returns : goal.returns
returns g c =
    let e : c.loop-round.round ≡ c.args.rounds = omega arith in
    c.loop-round.invariant ∙ ap (rounds_swept (g.S.Source.bits c.args.source.now)) e
