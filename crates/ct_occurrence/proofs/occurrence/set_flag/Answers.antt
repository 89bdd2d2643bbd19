use Rattle.std.proofs.Common.{sym, arith, length, ◌≡◌, ◌-◌}
use Rattle.ct_occurrence.proofs.FlagLemmas.{marked_one, marked_outside}
use Rattle.ct_occurrence.proofs.occurrence.set_flag.Goals as goal

pub returns-then-i-len : goal.returns-then-i-len
returns-then-i-len c =
    let bs = c.args.flags.now.items in
    let long : c.len.result ≡ length bs = omega (arith, c.len.ensures, c.args.flags.now.ok.0) in
    let again : c.len-then-i-len.result ≡ length bs = omega (arith, c.len-then-i-len.ensures, c.args.flags.now.ok.0) in
    record { marks = sym (marked_one c.args.i (c.len-then-i-len.result - 1 - c.args.i) bs (omega (arith, long, again, c.if-i-len.true))) }

pub returns-else-i-len : goal.returns-else-i-len
returns-else-i-len c =
    let bs = c.args.flags.now.items in
    let long : c.len.result ≡ length bs = omega (arith, c.len.ensures, c.args.flags.now.ok.0) in
    record { marks = sym (marked_outside c.args.i bs (omega (arith, long, c.if-i-len.false))) }
