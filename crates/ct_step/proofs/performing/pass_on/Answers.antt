use Rattle.std.proofs.Common.{refl}
use Rattle.ct_step.proofs.StoreLemmas.{apart, along, assuming_along}
use Rattle.ct_step.proofs.CacheLemmas.{cached}
use Rattle.ct_step.proofs.performing.pass_on.Goals as goal

pub returns-in-SetLogic : goal.returns-in-SetLogic
returns-in-SetLogic c =
    let o = apart c.args.state.now c.args.state.now c.args.number c.growing.ensures.hold c.set_logic.result c.args.command _ c.args.store.now c.requires.sound c.in-SetLogic.is refl (c.set_logic.ensures.done c.args.number) in
    record { done = o.done; stored = o.stored; sound = o.sound; cache = cached c.args.state.now c.args.state.now c.args.number c.growing.ensures.hold c.set_logic.result c.args.command _ c.args.cache.now c.requires.cache c.in-SetLogic.is refl (c.set_logic.ensures.done c.args.number); known = c.requires.known }

pub returns-in-SetOption : goal.returns-in-SetOption
returns-in-SetOption c =
    let o = apart c.args.state.now c.set_option.new.state c.args.number c.growing.ensures.hold c.set_option.result c.args.command _ c.args.store.now c.requires.sound c.in-SetOption.is refl (c.set_option.ensures.done c.args.number) in
    record { done = o.done; stored = o.stored; sound = o.sound; cache = cached c.args.state.now c.set_option.new.state c.args.number c.growing.ensures.hold c.set_option.result c.args.command _ c.args.cache.now c.requires.cache c.in-SetOption.is refl (c.set_option.ensures.done c.args.number); known = c.requires.known }

pub returns-in-SetDiagnosticOutput : goal.returns-in-SetDiagnosticOutput
returns-in-SetDiagnosticOutput c =
    let o = apart c.args.state.now c.set_diagnostic_output.new.state c.args.number c.growing.ensures.hold c.set_diagnostic_output.result c.args.command _ c.args.store.now c.requires.sound c.in-SetDiagnosticOutput.is refl (c.set_diagnostic_output.ensures.done c.args.number) in
    record { done = o.done; stored = o.stored; sound = o.sound; cache = cached c.args.state.now c.set_diagnostic_output.new.state c.args.number c.growing.ensures.hold c.set_diagnostic_output.result c.args.command _ c.args.cache.now c.requires.cache c.in-SetDiagnosticOutput.is refl (c.set_diagnostic_output.ensures.done c.args.number); known = c.requires.known }

pub returns-in-GetOption : goal.returns-in-GetOption
returns-in-GetOption c =
    let o = apart c.args.state.now c.args.state.now c.args.number c.growing.ensures.hold c.get_option.result c.args.command _ c.args.store.now c.requires.sound c.in-GetOption.is refl (c.get_option.ensures.done c.args.number) in
    record { done = o.done; stored = o.stored; sound = o.sound; cache = cached c.args.state.now c.args.state.now c.args.number c.growing.ensures.hold c.get_option.result c.args.command _ c.args.cache.now c.requires.cache c.in-GetOption.is refl (c.get_option.ensures.done c.args.number); known = c.requires.known }

pub returns-in-SetInfo : goal.returns-in-SetInfo
returns-in-SetInfo c =
    let o = apart c.args.state.now c.args.state.now c.args.number c.growing.ensures.hold c.set_info.result c.args.command _ c.args.store.now c.requires.sound c.in-SetInfo.is refl (c.set_info.ensures.done c.args.number) in
    record { done = o.done; stored = o.stored; sound = o.sound; cache = cached c.args.state.now c.args.state.now c.args.number c.growing.ensures.hold c.set_info.result c.args.command _ c.args.cache.now c.requires.cache c.in-SetInfo.is refl (c.set_info.ensures.done c.args.number); known = c.requires.known }

pub returns-in-GetInfo : goal.returns-in-GetInfo
returns-in-GetInfo c =
    let o = apart c.args.state.now c.args.state.now c.args.number c.growing.ensures.hold c.get_info.result c.args.command _ c.args.store.now c.requires.sound c.in-GetInfo.is refl (c.get_info.ensures.done c.args.number) in
    record { done = o.done; stored = o.stored; sound = o.sound; cache = cached c.args.state.now c.args.state.now c.args.number c.growing.ensures.hold c.get_info.result c.args.command _ c.args.cache.now c.requires.cache c.in-GetInfo.is refl (c.get_info.ensures.done c.args.number); known = c.requires.known }

pub returns-in-DeclareSort : goal.returns-in-DeclareSort
returns-in-DeclareSort c =
    let o = apart c.args.state.now c.declare_sort.new.state c.args.number c.growing.ensures.hold c.declare_sort.result c.args.command _ c.args.store.now c.requires.sound c.in-DeclareSort.is refl (c.declare_sort.ensures.done c.args.number) in
    record { done = o.done; stored = o.stored; sound = o.sound; cache = cached c.args.state.now c.declare_sort.new.state c.args.number c.growing.ensures.hold c.declare_sort.result c.args.command _ c.args.cache.now c.requires.cache c.in-DeclareSort.is refl (c.declare_sort.ensures.done c.args.number); known = c.requires.known }

pub returns-in-DefineSort : goal.returns-in-DefineSort
returns-in-DefineSort c =
    let o = apart c.args.state.now c.define_sort.new.state c.args.number c.growing.ensures.hold c.define_sort.result c.args.command _ c.args.store.now c.requires.sound c.in-DefineSort.is refl (c.define_sort.ensures.done c.args.number) in
    record { done = o.done; stored = o.stored; sound = o.sound; cache = cached c.args.state.now c.define_sort.new.state c.args.number c.growing.ensures.hold c.define_sort.result c.args.command _ c.args.cache.now c.requires.cache c.in-DefineSort.is refl (c.define_sort.ensures.done c.args.number); known = c.requires.known }

pub returns-in-DeclareBlock : goal.returns-in-DeclareBlock
returns-in-DeclareBlock c =
    let o = apart c.args.state.now c.declare_block.new.state c.args.number c.growing.ensures.hold c.declare_block.result c.args.command _ c.args.store.now c.requires.sound c.in-DeclareBlock.is refl (c.declare_block.ensures.done c.args.number) in
    record { done = o.done; stored = o.stored; sound = o.sound; cache = cached c.args.state.now c.declare_block.new.state c.args.number c.growing.ensures.hold c.declare_block.result c.args.command _ c.args.cache.now c.requires.cache c.in-DeclareBlock.is refl (c.declare_block.ensures.done c.args.number); known = c.requires.known }

pub returns-in-DeclareFun : goal.returns-in-DeclareFun
returns-in-DeclareFun c =
    let o = apart c.args.state.now c.declare_function.new.state c.args.number c.growing.ensures.hold c.declare_function.result c.args.command _ c.args.store.now c.requires.sound c.in-DeclareFun.is refl (c.declare_function.ensures.done c.args.number) in
    record { done = o.done; stored = o.stored; sound = o.sound; cache = cached c.args.state.now c.declare_function.new.state c.args.number c.growing.ensures.hold c.declare_function.result c.args.command _ c.args.cache.now c.requires.cache c.in-DeclareFun.is refl (c.declare_function.ensures.done c.args.number); known = c.requires.known }

pub returns-in-DefineFun : goal.returns-in-DefineFun
returns-in-DefineFun c =
    let o = apart c.args.state.now c.define_function.new.state c.args.number c.growing.ensures.hold c.define_function.result c.args.command _ c.args.store.now c.requires.sound c.in-DefineFun.is refl (c.define_function.ensures.done c.args.number) in
    record { done = o.done; stored = o.stored; sound = o.sound; cache = cached c.args.state.now c.define_function.new.state c.args.number c.growing.ensures.hold c.define_function.result c.args.command _ c.args.cache.now c.requires.cache c.in-DefineFun.is refl (c.define_function.ensures.done c.args.number); known = c.requires.known }

pub returns-in-Assert : goal.returns-in-Assert
returns-in-Assert c =
    let o = apart c.args.state.now c.assert.new.state c.args.number c.growing.ensures.hold c.assert.result c.args.command _ c.args.store.now c.requires.sound c.in-Assert.is refl (c.assert.ensures.done c.args.number) in
    record { done = o.done; stored = o.stored; sound = o.sound; cache = cached c.args.state.now c.assert.new.state c.args.number c.growing.ensures.hold c.assert.result c.args.command _ c.args.cache.now c.requires.cache c.in-Assert.is refl (c.assert.ensures.done c.args.number); known = c.requires.known }

pub returns-in-Push : goal.returns-in-Push
returns-in-Push c =
    let o = apart c.args.state.now c.push.new.state c.args.number c.growing.ensures.hold c.push.result c.args.command _ c.args.store.now c.requires.sound c.in-Push.is refl (c.push.ensures.done c.args.number) in
    record { done = o.done; stored = o.stored; sound = o.sound; cache = cached c.args.state.now c.push.new.state c.args.number c.growing.ensures.hold c.push.result c.args.command _ c.push.new.cache c.push.ensures.cache c.in-Push.is refl (c.push.ensures.done c.args.number); known = c.requires.known }

pub returns-in-Pop : goal.returns-in-Pop
returns-in-Pop c =
    let o = along c.args.state.now c.pop.new.state c.args.number c.pop.result c.args.command _ c.args.store.now c.pop.new.store c.requires.sound c.in-Pop.is refl (c.pop.ensures.done c.args.number) c.pop.ensures.stored c.pop.ensures.sorted in
    record { done = o.done; stored = o.stored; sound = o.sound; cache = c.pop.ensures.cache; known = c.requires.known }

pub returns-in-ResetAssertions : goal.returns-in-ResetAssertions
returns-in-ResetAssertions c =
    let o = along c.args.state.now c.reset_assertions.new.state c.args.number c.reset_assertions.result c.args.command _ c.args.store.now c.reset_assertions.new.store c.requires.sound c.in-ResetAssertions.is refl (c.reset_assertions.ensures.done c.args.number) c.reset_assertions.ensures.stored c.reset_assertions.ensures.sorted in
    record { done = o.done; stored = o.stored; sound = o.sound; cache = c.reset_assertions.ensures.cache; known = c.requires.known }

pub returns-in-Reset : goal.returns-in-Reset
returns-in-Reset c =
    let o = along c.args.state.now c.reset.new.state c.args.number c.reset.result c.args.command _ c.args.store.now c.reset.new.store c.requires.sound c.in-Reset.is refl (c.reset.ensures.done c.args.number) c.reset.ensures.stored c.reset.ensures.sorted in
    record { done = o.done; stored = o.stored; sound = o.sound; cache = c.reset.ensures.cache; known = c.requires.known }

pub returns-in-GetModel : goal.returns-in-GetModel
returns-in-GetModel c =
    let o = apart c.args.state.now c.args.state.now c.args.number c.growing.ensures.hold c.model.result c.args.command _ c.args.store.now c.requires.sound c.in-GetModel.is refl (c.model.ensures.done c.args.number) in
    record { done = o.done; stored = o.stored; sound = o.sound; cache = cached c.args.state.now c.args.state.now c.args.number c.growing.ensures.hold c.model.result c.args.command _ c.args.cache.now c.requires.cache c.in-GetModel.is refl (c.model.ensures.done c.args.number); known = c.requires.known }

pub returns-in-GetValue : goal.returns-in-GetValue
returns-in-GetValue c =
    let o = apart c.args.state.now c.values.new.state c.args.number c.growing.ensures.hold c.values.result c.args.command _ c.args.store.now c.requires.sound c.in-GetValue.is refl (c.values.ensures.done c.args.number) in
    record { done = o.done; stored = o.stored; sound = o.sound; cache = cached c.args.state.now c.values.new.state c.args.number c.growing.ensures.hold c.values.result c.args.command _ c.args.cache.now c.requires.cache c.in-GetValue.is refl (c.values.ensures.done c.args.number); known = c.values.ensures.known }

pub returns-in-GetProof : goal.returns-in-GetProof
returns-in-GetProof c =
    let o = apart c.args.state.now c.args.state.now c.args.number c.growing.ensures.hold c.proof.result c.args.command _ c.args.store.now c.requires.sound c.in-GetProof.is refl (c.proof.ensures.done c.args.number) in
    record { done = o.done; stored = o.stored; sound = o.sound; cache = cached c.args.state.now c.args.state.now c.args.number c.growing.ensures.hold c.proof.result c.args.command _ c.args.cache.now c.requires.cache c.in-GetProof.is refl (c.proof.ensures.done c.args.number); known = c.requires.known }

pub returns-in-Echo : goal.returns-in-Echo
returns-in-Echo c =
    let o = apart c.args.state.now c.args.state.now c.args.number c.growing.ensures.hold c.echo.result c.args.command _ c.args.store.now c.requires.sound c.in-Echo.is refl (c.echo.ensures.done c.args.state.now c.args.number) in
    record { done = o.done; stored = o.stored; sound = o.sound; cache = cached c.args.state.now c.args.state.now c.args.number c.growing.ensures.hold c.echo.result c.args.command _ c.args.cache.now c.requires.cache c.in-Echo.is refl (c.echo.ensures.done c.args.state.now c.args.number); known = c.requires.known }

pub returns-in-Exit : goal.returns-in-Exit
returns-in-Exit c =
    let o = apart c.args.state.now c.args.state.now c.args.number c.growing.ensures.hold c.exit.result c.args.command _ c.args.store.now c.requires.sound c.in-Exit.is refl (c.exit.ensures.done c.args.number) in
    record { done = o.done; stored = o.stored; sound = o.sound; cache = cached c.args.state.now c.args.state.now c.args.number c.growing.ensures.hold c.exit.result c.args.command _ c.args.cache.now c.requires.cache c.in-Exit.is refl (c.exit.ensures.done c.args.number); known = c.requires.known }

pub returns-in-Unsupported : goal.returns-in-Unsupported
returns-in-Unsupported c =
    let o = apart c.args.state.now c.args.state.now c.args.number c.growing.ensures.hold c.unsupported.result c.args.command _ c.args.store.now c.requires.sound c.in-Unsupported.is refl (c.unsupported.ensures.done c.args.state.now c.args.number) in
    record { done = o.done; stored = o.stored; sound = o.sound; cache = cached c.args.state.now c.args.state.now c.args.number c.growing.ensures.hold c.unsupported.result c.args.command _ c.args.cache.now c.requires.cache c.in-Unsupported.is refl (c.unsupported.ensures.done c.args.state.now c.args.number); known = c.requires.known }

pub returns-in-CheckSat : goal.returns-in-CheckSat
returns-in-CheckSat c =
    let o = along c.args.state.now c.check.new.state c.args.number c.check.result c.args.command _ c.args.store.now c.check.new.store c.requires.sound c.in-CheckSat.is refl c.check.ensures.done c.check.ensures.stored c.check.ensures.sorted in
    record { done = o.done; stored = o.stored; sound = o.sound; cache = c.check.ensures.cache; known = c.requires.known }

pub returns-in-CheckSatAssuming : goal.returns-in-CheckSatAssuming
returns-in-CheckSatAssuming c =
    let o = assuming_along c.args.state.now c.check_assuming.new.state c.args.number c.check_assuming.result c.args.command _ c.args.store.now c.check_assuming.new.store c.requires.sound c.in-CheckSatAssuming.is c.check_assuming.ensures.sound (c.check_assuming.ensures.done c.args.number) c.check_assuming.ensures.stored c.check_assuming.ensures.sorted in
    record { done = o.done; stored = o.stored; sound = o.sound; cache = c.check_assuming.ensures.cache; known = c.requires.known }

pub returns-in-GetUnsatCore : goal.returns-in-GetUnsatCore
returns-in-GetUnsatCore c =
    let o = apart c.args.state.now c.unsat_core.new.state c.args.number c.growing.ensures.hold c.unsat_core.result c.args.command _ c.args.store.now c.requires.sound c.in-GetUnsatCore.is refl (c.unsat_core.ensures.done c.args.number) in
    record { done = o.done; stored = o.stored; sound = o.sound; cache = cached c.args.state.now c.unsat_core.new.state c.args.number c.growing.ensures.hold c.unsat_core.result c.args.command _ c.unsat_core.new.cache c.unsat_core.ensures.cache c.in-GetUnsatCore.is refl (c.unsat_core.ensures.done c.args.number); known = c.requires.known }

pub returns-in-GetUnsatAssumptions : goal.returns-in-GetUnsatAssumptions
returns-in-GetUnsatAssumptions c =
    let o = apart c.args.state.now c.unsat_assumptions.new.state c.args.number c.growing.ensures.hold c.unsat_assumptions.result c.args.command _ c.args.store.now c.requires.sound c.in-GetUnsatAssumptions.is refl (c.unsat_assumptions.ensures.done c.args.number) in
    record { done = o.done; stored = o.stored; sound = o.sound; cache = cached c.args.state.now c.unsat_assumptions.new.state c.args.number c.growing.ensures.hold c.unsat_assumptions.result c.args.command _ c.unsat_assumptions.new.cache c.unsat_assumptions.ensures.cache c.in-GetUnsatAssumptions.is refl (c.unsat_assumptions.ensures.done c.args.number); known = c.requires.known }
