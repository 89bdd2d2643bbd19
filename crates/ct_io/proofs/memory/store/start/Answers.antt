use Rattle.ct_io.proofs.Files.{file_named-position}
use Rattle.ct_io.proofs.memory.store.start.Goals as goal

pub returns-in_err-file : goal.returns-in_err-file
returns-in_err-file c =
    let named = file_named-position c.args.files.now c.args.name.now in
    let none = rw (← c.find.ensures.value, c.in_err-file.was) at named in
    record { named = rw c.from_residual.ensures none }

pub returns : goal.returns
returns c =
    let named = file_named-position c.args.files.now c.args.name.now in
    record { named = rw (← c.find.ensures.value, c.in_ok-file.was) at named }
