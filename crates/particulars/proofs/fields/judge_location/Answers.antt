-- `particulars::fields::judge_location` meets its contract. One law of `FieldLaws` for each way out. Assumes nothing.
use Rattle.particulars.proofs.FieldLaws.{location-faults, location-provider, no-location}
use Rattle.particulars.proofs.fields.judge_location.Goals as goal
use mathlib.Core.Path.{sym, ◌∙◌}

pub returns-then-byte-ne123-clause-fault : goal.returns-then-byte-ne123-clause-fault
returns-then-byte-ne123-clause-fault c = (no-location c.args.v.now c.args.o (λ e. c.if-byte-ne123.true (c.byte.ensures ∙ e))).0

pub returns-then-byte-ne123-clause-provider : goal.returns-then-byte-ne123-clause-provider
returns-then-byte-ne123-clause-provider c = (no-location c.args.v.now c.args.o (λ e. c.if-byte-ne123.true (c.byte.ensures ∙ e))).1

pub returns-clause-fault : goal.returns-clause-fault
returns-clause-fault c =
    location-faults c.args.v.now c.args.o (sym c.byte.ensures ∙ c.if-byte-ne123.false) c.gather-f.ensures.places c.members.ensures

pub returns-clause-provider : goal.returns-clause-provider
returns-clause-provider c =
    location-provider c.args.v.now c.args.o (sym c.byte.ensures ∙ c.if-byte-ne123.false) c.gather-f.ensures.places c.provider_in.ensures
