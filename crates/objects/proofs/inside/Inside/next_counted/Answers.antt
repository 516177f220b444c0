use Rattle.std.proofs.Common.{refl, arith}
use Rattle.table.specs.Description.{description}
use Rattle.objects.specs.declared.frame.Frame.TheVariants.{Counted}
use Rattle.objects.specs.Ahead.{inner_of, object_of}
use Rattle.objects.proofs.FrameRuns.{counted_end, counted_begins, counted_room, counted_uses}
use Rattle.objects.proofs.Sames.{same-inner, begins_at, room_under, fit_under}
use Rattle.objects.proofs.inside.Inside.next_counted.Goals as goal

pub returns-then-index-total : goal.returns-then-index-total
returns-then-index-total g c =
    record {
      moved = λ B l.
          record {
            before = 0;
            same = counted_end (description c.args.scene.now.tables.now) B (object_of c.args.scene.now.about) (inner_of c.args.self.now) c.args.scene.now.place c.args.line c.args.fields c.args.index c.args.total (omega arith);
            fit = fit_under (description c.args.scene.now.tables.now) _ _ c.requires;
            near = c.args.scene.now.near;
          };
      bound = λ h. (omega arith, h);
    }

pub push-requires : goal.push-requires
push-requires g c = room_under (description c.args.scene.now.tables.now) (Counted c.args.line c.args.fields c.args.index c.args.total) refl c.requires

pub returns : goal.returns
returns g c =
    record {
      moved = λ B l.
          begins_at (same-inner c.push.ensures refl)
          (record {
            before = 0;
            same = counted_begins (description c.args.scene.now.tables.now) B (object_of c.args.scene.now.about) (inner_of c.args.self.now) c.args.scene.now.place c.args.line c.args.fields c.args.index c.args.total (omega arith);
            fit = counted_room (description c.args.scene.now.tables.now) B (object_of c.args.scene.now.about) (inner_of c.args.self.now) c.args.scene.now.place c.args.line c.args.fields c.args.index c.args.total c.requires;
            uses = counted_uses (description c.args.scene.now.tables.now) B (object_of c.args.scene.now.about) (inner_of c.args.self.now) c.args.scene.now.place c.args.line c.args.fields c.args.index c.args.total c.requires;
          });
      bound = λ h. tt;
    }
