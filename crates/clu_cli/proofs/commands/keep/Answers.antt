use Rattle.std.proofs.Common.{◌∙◌}
use Rattle.clu_cli.proofs.Keeping.{kept_partly}
use Rattle.clu_cli.proofs.commands.keep.Goals as goal

pub returns-in-Err-Failed-clause-tells : goal.returns-in-Err-Failed-clause-tells
returns-in-Err-Failed-clause-tells g c = record {
  whole = tt;
  stops = kept_partly c.args.name c.in-Some.name c.in-Some.is c.deref.result.now _ _ c.args.certificate.now (c.deref.ensures.value ∙ c.in-Ok.ensures)
      c.in-Err-Failed.ensures.tells.at_most _ tt c.in-Err-Failed.ensures.tells.partly;
}

pub returns-clause-tells : goal.returns-clause-tells
returns-clause-tells g c = record {
  whole = tt;
  stops = kept_partly c.args.name c.in-Some.name c.in-Some.is c.deref.result.now _ _ c.args.certificate.now (c.deref.ensures.value ∙ c.in-Ok.ensures)
      c.in-Err-Memory.ensures.tells.at_most _ tt c.in-Err-Memory.ensures.tells.partly;
}
