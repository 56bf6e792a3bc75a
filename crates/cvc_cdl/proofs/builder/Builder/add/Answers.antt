use Rattle.std.proofs.Common.{Ok, Err, Some, None, refl, sym, ap}
use Rattle.cvc_cdl.specs.Builder.{entry_of}
use Rattle.cvc_cdl.specs.Drafting.{draft_held, refusal_of}
use Rattle.cvc_cdl.proofs.Named.{named_after}
use Rattle.cvc_cdl.proofs.Standing.{refuses, stands_added, stands_refused, stands_stopped}
use Rattle.cvc_cdl.proofs.builder.Builder.add.Goals as goal

pub returns-in-Some-clause-stands : goal.returns-in-Some-clause-stands
returns-in-Some-clause-stands c =
    rw (← c.self.view_is) (λ entries st. stands_refused (draft_held c.self.inside.draft) c.in-Some.refusal (entry_of c.args.card c.args.line) c.self.inside.refused c.in-Some.is entries st)

pub returns-in-Some-clause-refuses : goal.returns-in-Some-clause-refuses
returns-in-Some-clause-refuses c =
    rw (← c.self.view_is) (λ entries st.
    let entry = entry_of c.args.card c.args.line in
    refuses (draft_held c.self.inside.draft) _ (Err c.in-Some.refusal) c.self.inside.refused c.in-Some.is
    (stands_refused (draft_held c.self.inside.draft) c.in-Some.refusal entry c.self.inside.refused c.in-Some.is entries st))

pub returns-in-Err-clause-stands : goal.returns-in-Err-clause-stands
returns-in-Err-clause-stands c =
    rw (← c.self.view_is) (λ entries st.
    stands_stopped (draft_held c.add.new.self) (record { refused = Some c.on-refusal.result; draft = draft_held c.add.new.self }) c.args.line c.in-Err.stop c.on-refusal.result c.on-refusal.ensures refl _
    (stands_added (draft_held c.self.inside.draft) (draft_held c.add.new.self) c.args.card c.args.line c.requires (Err c.in-Err.stop) c.in-Err.ensures c.self.inside.refused c.in_default.is entries st))

pub returns-in-Err-clause-refuses : goal.returns-in-Err-clause-refuses
returns-in-Err-clause-refuses c =
    rw (← c.self.view_is) (λ entries st.
    refuses (draft_held c.add.new.self) _ (Err c.on-refusal.result) (Some (refusal_of c.args.line c.in-Err.stop)) (ap (λ r. Some r) (sym c.on-refusal.ensures))
    (stands_added (draft_held c.self.inside.draft) (draft_held c.add.new.self) c.args.card c.args.line c.requires (Err c.in-Err.stop) c.in-Err.ensures c.self.inside.refused c.in_default.is entries st))

pub returns-in-Ok-clause-stands : goal.returns-in-Ok-clause-stands
returns-in-Ok-clause-stands c =
    rw (← c.self.view_is, c.in_default.is) (λ entries st.
    stands_added (draft_held c.self.inside.draft) (draft_held c.add.new.self) c.args.card c.args.line c.requires (Ok c.in-Ok.field-0) c.in-Ok.ensures None refl entries st)

pub returns-in-Ok-clause-refuses : goal.returns-in-Ok-clause-refuses
returns-in-Ok-clause-refuses c =
    rw (← c.self.view_is) (λ entries st.
    refuses (draft_held c.add.new.self) _ (Ok c.in-Ok.field-0) None refl
    (stands_added (draft_held c.self.inside.draft) (draft_held c.add.new.self) c.args.card c.args.line c.requires (Ok c.in-Ok.field-0) c.in-Ok.ensures c.self.inside.refused c.in_default.is entries st))

pub invariant_of-self : goal.invariant_of-self
invariant_of-self c = λ none. named_after (draft_held c.self.inside.draft) (draft_held c.add.new.self) c.args.line c.args.card (c.self.invariant c.in_default.is) c.in-Ok.ensures.1
