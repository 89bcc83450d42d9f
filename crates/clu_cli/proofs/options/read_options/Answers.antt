use Rattle.clu_cli.proofs.OptionLaws.{given_more}
use Rattle.clu_cli.proofs.options.read_options.Goals as goal

pub loop-rest-preserved : goal.loop-rest-preserved
loop-rest-preserved c =
    given_more c.loop-rest.rest.now c.option-item.result c.value-item.result c.as_str.result.now c.as_str-in-len2-up.result.now _ _ _ c.in-len2-up.len_at_least
    c.option-item.is c.value-item.is c.as_str.ensures.value c.as_str-in-len2-up.ensures.value c.loop-rest.invariant c.in_ok-options.ensures
