use Rattle.std.proofs.Common.{◌≡◌, List, ◌∙◌, subst, arith}
use Rattle.records.specs.declared.records.Line.{Line}
use Rattle.table.specs.Description.{description}
use Rattle.rules.specs.Code.{code}
use Rattle.objects.specs.Frames.{frames}
use Rattle.objects.specs.Ahead.{inner_of, object_of}
use Rattle.rules.specs.Code.{finish}
use Rattle.objects.specs.Upcoming.{IsNext}
use Rattle.objects.proofs.FrameRuns.{moved_from}
use Rattle.objects.proofs.LineRuns.{finish_run}
use Rattle.objects.proofs.NextLines.{lines_run, lines_room, next_is}
use Rattle.objects.proofs.Sames.{fit_under}
use Rattle.objects.proofs.inside.Inside.line.Goals as goal

pub known_line-requires : goal.known_line-requires
known_line-requires g c =
    let d = description c.args.scene.now.tables.now in
    let n : IsNext d.lines c.args.at c.args.count c.in-Some.next.at.line c.in-Some.next.at.after c.in-Some.next.statement =
    subst (λ (ls : List Line). IsNext ls c.args.at c.args.count c.in-Some.next.at.line c.in-Some.next.at.after c.in-Some.next.statement) c.deref.ensures.value c.in-Some.ensures in
    record {
      room = lines_room d c.args.at c.args.count _ n.same (frames c.args.self.now.frames) c.requires;
      is = next_is d c.args.at c.args.count c.in-Some.next.at.line c.in-Some.next.at.after c.in-Some.next.statement n;
    }

pub returns-in-None : goal.returns-in-None
returns-in-None g c =
    let d = description c.args.scene.now.tables.now in
    let o = object_of c.args.scene.now.about in
    let i = inner_of c.args.self.now in
    let n : code d.lines c.args.at c.args.count ≡ finish =
    subst (λ (ls : List Line). code ls c.args.at c.args.count ≡ finish) c.deref.ensures.value c.in-None.ensures in
    record {
      moved = λ B l.
          record {
            before = 0;
            same = λ obj. lines_run d c.args.at c.args.count finish n B o i c.args.scene.now.place obj ∙ finish_run d B o i c.args.scene.now.place obj;
            fit = fit_under d _ _ c.requires;
            near = c.args.scene.now.near;
          };
      bound = λ h. (omega arith, h);
    }

pub returns-in-Some : goal.returns-in-Some
returns-in-Some g c =
    let d = description c.args.scene.now.tables.now in
    let o = object_of c.args.scene.now.about in
    let i = inner_of c.args.self.now in
    let n : IsNext d.lines c.args.at c.args.count c.in-Some.next.at.line c.in-Some.next.at.after c.in-Some.next.statement =
    subst (λ (ls : List Line). IsNext ls c.args.at c.args.count c.in-Some.next.at.line c.in-Some.next.at.after c.in-Some.next.statement) c.deref.ensures.value c.in-Some.ensures in
    record {
      moved = λ B l.
          moved_from d B o c.args.scene.now.place c.known_line.result (inner_of c.known_line.new.self)
          (lines_run d c.args.at c.args.count _ n.same B o i c.args.scene.now.place) (c.known_line.ensures.moved B l);
      bound = λ h. c.known_line.ensures.bound h;
    }
