use Rattle.std.proofs.Common.{ap, arith}
use Rattle.std.proofs.lemmas.Map.Text.{text_keys}
use Rattle.clu_outside.proofs.Storing.{on_error_if, from_error}
use Rattle.clu_outside.proofs.memory_folder.MemoryFolder.add_at.Goals as goal

pub returns-in-Some-clause-others : goal.returns-in-Some-clause-others
returns-in-Some-clause-others c = λ other differ. grind (arith, text_keys)

pub returns-in-Some-clause-err : goal.returns-in-Some-clause-err
returns-in-Some-clause-err c = on_error_if c.extend_from_slice.result (λ e name. grind (arith, text_keys))

pub returns-in_ok-to_vec-in-None-clause-err : goal.returns-in_ok-to_vec-in-None-clause-err
returns-in_ok-to_vec-in-None-clause-err c = on_error_if c.put_at.result (λ e name.
    let same = ap (λ held. held name) (from_error c.put_at.result c.put_at.ensures.err e) in
    grind (arith, text_keys))
