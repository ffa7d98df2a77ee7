-- What the reach of each rule is: in every text that breaks the rule, the place of its one bad letter. Assumes nothing.
use Prim.Native.Nat.{ℕ}
use Rattle.letters.proofs.Reaches.{Reaches, bad, front_reaches, one_reach}
use Rattle.letters.proofs.RuleLaws.{address_reaches, call_id_reaches, date_reaches, sequence_reaches}
use Rattle.letters.specs.BadLetter.{BadLetter}
use Rattle.letters.specs.inner.Reach.{address_reach, call_id_reach, date_reach, sequence_reach}
use Rattle.rules.proofs.PlainLaws.{Plain, address_plain, call_id_plain, date-plain, sequence-plain}
use Rattle.rules.specs.Address.{address_rule}
use Rattle.rules.specs.Date.{date_rule}
use Rattle.rules.specs.Sequence.{sequence_rule}
use Rattle.rules.specs.Texts.{call_id_rule}
use lib.ListN.{take}
use mathlib.Core.Bool.{Bool, false}
use mathlib.Core.List.{List}
use mathlib.Core.Path.{◌≡◌}

-- THE LAW: the reach is the bad letter (there is no other: `one-bad-letter` of Reaches.antt)
pub bad-sequence : (t : List ℕ) → sequence_rule t ≡ false → BadLetter sequence_rule t (sequence_reach t)
bad-sequence t = bad (sequence_reaches t)

pub bad_address : (t : List ℕ) → address_rule t ≡ false → BadLetter address_rule t (address_reach t)
bad_address t = bad (address_reaches t)

pub bad-date : (t : List ℕ) → date_rule t ≡ false → BadLetter date_rule t (date_reach t)
bad-date t = bad (date_reaches t)

pub bad-call_id : (t : List ℕ) → call_id_rule t ≡ false → BadLetter call_id_rule t (call_id_reach t)
bad-call_id t = bad (call_id_reaches t)

-- what keeps a rule is shorter than 256, so that many letters tell
cut : {R : List ℕ → Bool} {reach : List ℕ → ℕ} → Plain R → ((t : List ℕ) → Reaches R t (reach t)) → (t : List ℕ) → reach (take 256 t) ≡ reach t
cut p r t = one_reach (front_reaches 256 p.short (r (take 256 t))) (r t)

pub sequence-cut : (t : List ℕ) → sequence_reach (take 256 t) ≡ sequence_reach t
sequence-cut = cut sequence-plain sequence_reaches

pub address_cut : (t : List ℕ) → address_reach (take 256 t) ≡ address_reach t
address_cut = cut address_plain address_reaches

pub date-cut : (t : List ℕ) → date_reach (take 256 t) ≡ date_reach t
date-cut = cut date-plain date_reaches

pub call_id_cut : (t : List ℕ) → call_id_reach (take 256 t) ≡ call_id_reach t
call_id_cut = cut call_id_plain call_id_reaches
