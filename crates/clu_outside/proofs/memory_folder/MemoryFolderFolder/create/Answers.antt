use Rattle.std.proofs.Common.{ap, Some, ◌∙◌}
use Rattle.clu_outside.proofs.Storing.{on_error, refused_create}
use Rattle.clu_outside.proofs.memory_folder.MemoryFolderFolder.create.Goals as goal

pub returns-in_err-begin_store-clause-tells : goal.returns-in_err-begin_store-clause-tells
returns-in_err-begin_store-clause-tells c =
    refused_create _ _ _ _ c.from_residual.ensures.0 c.begin_store.ensures.calls (λ name. ap (λ held. held name) c.begin_store.ensures.held)
    c.begin_store.ensures.names

pub returns-in_err-begin_store-clause-refused : goal.returns-in_err-begin_store-clause-refused
returns-in_err-begin_store-clause-refused c =
    on_error _ c.from_residual.ensures.0 (λ name. ap (λ held. held name) c.begin_store.ensures.held)

pub returns-in_err-put_at-clause-tells : goal.returns-in_err-put_at-clause-tells
returns-in_err-put_at-clause-tells c =
    refused_create _ _ _ _ c.from_residual-in_err-put_at.ensures.0 (c.put_at.ensures.calls.calls ∙ c.begin_store.ensures.calls)
    (λ name. ap (λ held. held name) (c.in_err-put_at.ensures.err ∙ c.begin_store.ensures.held))
    (c.put_at.ensures.calls.loads ∙ c.begin_store.ensures.names)

pub returns-in_err-put_at-clause-refused : goal.returns-in_err-put_at-clause-refused
returns-in_err-put_at-clause-refused c =
    on_error _ c.from_residual-in_err-put_at.ensures.0 (λ name. ap (λ held. held name) (c.in_err-put_at.ensures.err ∙ c.begin_store.ensures.held))

pub returns-clause-tells : goal.returns-clause-tells
returns-clause-tells c = record {
  later = c.put_at.ensures.calls.calls ∙ c.begin_store.ensures.calls;
  created = record {
    whole = c.in_ok-put_at.ensures.put ∙ ap Some c.new.ensures.items;
    others = λ other differ. c.put_at.ensures.others other differ ∙ ap (λ held. held other) c.begin_store.ensures.held;
    loads = c.put_at.ensures.calls.loads ∙ c.begin_store.ensures.names;
  };
  refused = tt;
}
