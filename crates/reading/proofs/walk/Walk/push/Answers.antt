use Rattle.std.proofs.Common.{◌<◌, refl, arith, get_or-set_other}
use Rattle.objects.proofs.Stacks.{stack_push, stack_room}
use Rattle.reading.specs.Walks.{objects_of, no_object}
use Rattle.reading.proofs.walk.Walk.push.Goals as goal

pub offset_bounds-self-self : goal.offset_bounds-self-self
unfolding objects_of
offset_bounds-self-self c = let h = stack_room no_object c.args.self.now.objects c.args.self.now.depth 16 c.requires.room in omega arith

pub bounds-self-self : goal.bounds-self-self
unfolding objects_of
bounds-self-self c = let h = stack_room no_object c.args.self.now.objects c.args.self.now.depth 16 c.requires.room in omega arith

pub listed : goal.listed
unfolding objects_of
listed c = let h = stack_room no_object c.args.self.now.objects c.args.self.now.depth 16 c.requires.room in omega arith

pub overflow_add-self : goal.overflow_add-self
unfolding objects_of
overflow_add-self c = let h = stack_room no_object c.args.self.now.objects c.args.self.now.depth 16 c.requires.room in omega arith

pub returns : goal.returns
unfolding objects_of
returns c =
    let h : c.args.self.now.depth < 16 = stack_room no_object c.args.self.now.objects c.args.self.now.depth 16 c.requires.room in
    record {
      object = c.begin.new.self;
      is = c.begin.ensures.is;
      begun = c.begin.ensures.begun;
      pushed = record {
        objects = stack_push no_object c.args.self.now.objects c.args.self.now.depth 16 c.begin.new.self h (omega arith);
        place = refl;
        started = refl;
        kept = λ j l. get_or-set_other c.args.self.now.objects c.args.self.now.depth j c.begin.new.self no_object (omega arith);
      };
    }
