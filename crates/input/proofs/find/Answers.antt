-- `input::find` meets its contract.
use native.Mathlib.Omega.{arith}
use Rattle.std.proofs.lemmas.Result.{err_from_is_err_and}
use Rattle.input.proofs.FoundLaws.{found_ended, found_unknown, found_short, found_bad, found_whole}
use Rattle.input.proofs.find.Goals as goal

pub returns-then-from-input : goal.returns-then-from-input
returns-then-from-input c = search found_ended

pub returns-in_default : goal.returns-in_default
returns-in_default c = found_unknown c.args.wire c.args.input.now c.args.from (omega arith) c.body_length.ensures c.in_default.is

pub returns-then-body-length : goal.returns-then-body-length
returns-then-body-length c = found_short c.args.wire c.args.input.now c.args.from (omega arith) c.body_length.ensures c.in-Some.is c.if-body-length.true

pub returns-in_err-port : goal.returns-in_err-port
returns-in_err-port c =
    let p = err_from_is_err_and c.from_residual.result c.from_residual.ensures.1 in
    rw (p.1, p.2) (found_bad c.args.wire c.args.input.now c.args.from (omega arith) c.body_length.ensures c.in-Some.is c.if-body-length.false c.decode-parsed.ensures c.in_err-port.was)

pub returns : goal.returns
returns c = found_whole c.args.wire c.args.input.now c.args.from (omega arith) c.decode-parsed.ensures c.in_ok-port.was
