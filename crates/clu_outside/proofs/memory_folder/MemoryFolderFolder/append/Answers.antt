use Rattle.std.proofs.Common.{ap, Some, [], unwrap_or, ◌++◌, ◌∙◌}
use Rattle.clu_outside.proofs.Storing.{on_error, refused_append}
use Rattle.clu_outside.proofs.memory_folder.MemoryFolderFolder.append.Goals as goal

pub returns-in_err-begin_store-clause-tells : goal.returns-in_err-begin_store-clause-tells
returns-in_err-begin_store-clause-tells c =
    refused_append _ _ _ _ _ c.from_residual.ensures.0 c.begin_store.ensures.calls (λ name. ap (λ held. held name) c.begin_store.ensures.held)
    c.begin_store.ensures.names

pub returns-in_err-begin_store-clause-refused : goal.returns-in_err-begin_store-clause-refused
returns-in_err-begin_store-clause-refused c =
    on_error _ c.from_residual.ensures.0 (λ name. ap (λ held. held name) c.begin_store.ensures.held)

pub returns-in_err-add_at-clause-tells : goal.returns-in_err-add_at-clause-tells
returns-in_err-add_at-clause-tells c =
    refused_append _ _ _ _ _ c.from_residual-in_err-add_at.ensures.0 (c.add_at.ensures.calls.calls ∙ c.begin_store.ensures.calls)
    (λ name. c.in_err-add_at.ensures.err name ∙ ap (λ held. held name) c.begin_store.ensures.held)
    (c.add_at.ensures.calls.loads ∙ c.begin_store.ensures.names)

pub returns-in_err-add_at-clause-refused : goal.returns-in_err-add_at-clause-refused
returns-in_err-add_at-clause-refused c =
    on_error _ c.from_residual-in_err-add_at.ensures.0 (λ name. c.in_err-add_at.ensures.err name ∙ ap (λ held. held name) c.begin_store.ensures.held)

pub returns-clause-tells : goal.returns-clause-tells
returns-clause-tells c = record {
  later = c.add_at.ensures.calls.calls ∙ c.begin_store.ensures.calls;
  appended = record {
    whole = c.in_ok-add_at.ensures.added
        ∙ ap (λ held. Some (unwrap_or (held c.args.name.now) [] ++ c.args.bytes.now)) c.begin_store.ensures.held;
    others = λ other differ. c.add_at.ensures.others other differ ∙ ap (λ held. held other) c.begin_store.ensures.held;
    loads = c.add_at.ensures.calls.loads ∙ c.begin_store.ensures.names;
  };
  refused = tt;
}
