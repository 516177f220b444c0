use Rattle.std.proofs.Common.{◌%◌, ◌<◌, ◌≤◌, Err, sym, ap, ◌∙◌, arith, rules}
use Rattle.std.proofs.lemmas.Result.{err_from_is_err_and, IfOk-weaker}
use Rattle.steps.proofs.Sizes.{size_none, size_fails, size_ends, size_goes, room_here, room_after}
use Rattle.steps.proofs.view.View.+more_size_bytes.Goals as goal

pub size_bytes-returns-then-left-eq0 : goal.size_bytes-returns-then-left-eq0
size_bytes-returns-then-left-eq0 g t c =
    record {
      value = ap Err c.into.ensures ∙ sym (size_none (g.S.Source.bits c.args.self.now.source.now) c.args.self.now.window c.args.left c.args.high c.args.p c.if-left-eq0.true);
      bound = tt;
    }

pub size_bytes-returns-in_err-byte : goal.size_bytes-returns-in_err-byte
size_bytes-returns-in_err-byte g t c =
    let p = err_from_is_err_and c.from_residual.result c.from_residual.ensures.1 in
    rw (p.1, p.2) (record { value = size_fails (g.S.Source.bits c.args.self.now.source.now) c.args.self.now.window c.args.left c.args.high c.args.p (omega arith) _ c.in_err-byte.ensures.value; bound = tt })

pub size_bytes-overflow_mul-result : goal.size_bytes-overflow_mul-result
size_bytes-overflow_mul-result g t c = let r = room_here c.args.left c.args.high (omega arith) c.requires.room in omega arith

pub size_bytes-overflow_add-result : goal.size_bytes-overflow_add-result
size_bytes-overflow_add-result g t c = let r = room_here c.args.left c.args.high (omega arith) c.requires.room in omega arith

pub size_bytes-returns-then-byte-lt128 : goal.size_bytes-returns-then-byte-lt128
size_bytes-returns-then-byte-lt128 g t c =
    record {
      value = size_ends (g.S.Source.bits c.args.self.now.source.now) c.args.self.now.window c.args.left c.args.high c.args.p (omega arith) c.in_ok-byte.field-0 c.in_ok-byte.ensures.value c.if-byte-lt128.true;
      bound = (let r = room_here c.args.left c.args.high (omega arith) c.requires.room in (omega arith, omega arith, c.in_ok-byte.ensures.bound.1));
    }

pub size_bytes-overflow_mul-high : goal.size_bytes-overflow_mul-high
size_bytes-overflow_mul-high g t c = let r = room_here c.args.left c.args.high (omega arith) c.requires.room in omega arith

pub size_bytes-overflow_add-high : goal.size_bytes-overflow_add-high
size_bytes-overflow_add-high g t c = let r = room_here c.args.left c.args.high (omega arith) c.requires.room in omega arith

pub size_bytes-more_bytes-requires : goal.size_bytes-more_bytes-requires
size_bytes-more_bytes-requires g t c κs within =
    let r = room_after c.args.left c.args.high (omega arith) c.requires.room (c.in_ok-byte.field-0 % 128) (omega arith) in
    search rules

pub size_bytes-returns : goal.size_bytes-returns
size_bytes-returns g t c =
    record {
      value = c.more_bytes.ensures.value ∙ size_goes (g.S.Source.bits c.args.self.now.source.now) c.args.self.now.window c.args.left c.args.high c.args.p (omega arith) c.in_ok-byte.field-0 c.in_ok-byte.ensures.value c.if-byte-lt128.false;
      bound = IfOk-weaker c.more_bytes.result _ (λ s. (s.0 < 268435456) × (c.args.p ≤ s.1) × (s.1 ≤ c.args.self.now.window.end)) (λ s h. (h.0, omega (arith, h.1), h.2)) c.more_bytes.ensures.bound;
    }
