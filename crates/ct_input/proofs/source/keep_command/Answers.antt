use Rattle.std.proofs.Common.{◌≡◌, ◌+◌, ◌-◌, List, ℕ, length, ◌++◌, ap, ap₂, sym, ◌∙◌, arith}
use Rattle.ct_sexpr.specs.Whitespace as whitespace
use Rattle.ct_input.proofs.PieceLemmas.{no_longer}
use Rattle.ct_input.proofs.SourceLemmas.{taken_apart}
use Rattle.ct_input.proofs.source.keep_command.Goals as goal

pub overflow_sub-space : goal.overflow_sub-space
overflow_sub-space c = rw (c.after_whitespace.ensures.value, c.rest.ensures.value, c.rest-2.ensures.value) (no_longer c.args.bytes.now.rest)

pub returns-clause-command : goal.returns-clause-command
returns-clause-command c =
    let rest = c.args.bytes.now.rest in
    let last : length c.after_whitespace.result.now ≡ length (whitespace.after_whitespace rest) = ap length (c.after_whitespace.ensures.value ∙ ap whitespace.after_whitespace c.rest-2.ensures.value) in
    let all : length c.rest.result.now ≡ length rest = ap length c.rest.ensures.value in
    let space = length c.rest.result.now - length c.after_whitespace.result.now in
    let few = no_longer rest in
    let apart = taken_apart rest space (c.args.taken - space) (omega (arith, last, all, few)) in
    let size : space + (c.args.taken - space) ≡ c.args.taken = omega (arith, last, all, few, c.requires.after) in
    apart ∙ ap₂ (λ (xs ys : List ℕ). xs ++ ys) (sym c.advance.ensures.command) (sym c.advance.ensures.rest)
