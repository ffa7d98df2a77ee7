-- Via of an accepted request or response keeps its rule and stands within the text (`via-kept`, `via-inside`); how long a value is (`value-short`).
-- Assumes nothing.
use Rattle.octets.proofs.TextLaws.{there}
use Rattle.octets.proofs.TestLaws.{and_parts}
use Prim.Native.Nat.{ℕ, zero, suc, ◌-◌, ◌≤◌, ◌<◌}
use Rattle.json_text.specs.Places.{part, bytes, behind}
use Rattle.message.proofs.AcceptedRows.{read_short, read_taken, good-sound, is-there, is-kept}
use Rattle.message.specs.Message.{first_setting, message_of, setting_of}
use Rattle.fields.specs.Field.{keeps}
use Rattle.message.specs.Reading.{reading}
use Rattle.values.specs.Value.{is_array}
use Rattle.fields.specs.Via.{via_rule}
use Rattle.message.specs.declared.facts.Message.{Message}
use Rattle.fields.specs.declared.judging.Setting.{Setting}
use Rattle.std.specs.Prelude.{Ok}
use Rattle.rules.specs.Asks.{tag_asks, is_in}
use borrow.Author.Tests.{eqb-true}
use lib.Dec.{eqb}
use lib.ListN.{length, get_or, take, drop, length-take, length-drop}
use mathlib.Core.Bool.{true}
use mathlib.Core.List.{List}
use mathlib.Core.Path.{◌≡◌, refl, sym, ap, ◌∙◌}
use native.Mathlib.Omega.{arith}

-- A part is no longer than the text.
pub part-short : (s : List ℕ) (a e : ℕ) → length (part s a e) ≤ length s
unfolding part
part-short s a e = simp (length-take, length-drop) (omega arith)

pub via-keeps : (k : Setting) (v : List ℕ) → keeps k 6 v ≡ via_rule v
unfolding keeps
via-keeps k v = refl

pub via-asked : (tag : ℕ) → 1 ≤ tag → tag ≤ 2 → tag_asks tag 6 ≡ 1
unfolding tag_asks is_in
via-asked zero h g = absurd (omega arith)
via-asked (suc zero) h g = refl
via-asked (suc (suc zero)) h g = refl
via-asked (suc (suc (suc tag))) h g = absurd (omega arith)

via-place : (s : List ℕ) (tag : ℕ) (t : List ℕ) → (message_of s (setting_of s tag t) t).via ≡ get_or t 6 0
unfolding message_of
via-place s tag t = refl

pub via-kept : (c : ℕ) (s : List ℕ) (m : Message) → reading c s ≡ Ok m → m.tag ≤ 2 → via_rule (bytes s m.via) ≡ true
via-kept c s m e l =
    let a = read_taken c s m e l in
    let t = a.t in
    let g = good-sound s true (first_setting m.tag) t a.accepted.fits in
    let q = via-asked m.tag a.accepted.kind.0 l in
    let p = is-there g 6 (omega arith) (omega arith) q in
    let k = is-kept g 6 (omega arith) (omega arith) (omega (arith, q)) p in
    ap (λ (x : Message). via_rule (bytes s x.via)) (sym a.is) ∙ ap (λ (x : ℕ). via_rule (bytes s x)) (via-place s m.tag t)
    ∙ sym (via-keeps (first_setting m.tag) (bytes s (get_or t 6 0))) ∙ k

array-byte : (v : List ℕ) → via_rule v ≡ true → get_or v 0 0 ≡ 91
unfolding via_rule is_array
array-byte v e = eqb-true (get_or v 0 0) 91 (and_parts (eqb (get_or v 0 0) 91) _ e).0

starts-inside : (s : List ℕ) (v e : ℕ) → get_or (part s v e) 0 0 ≡ 91 → v < length s
unfolding part
starts-inside s v e h =
    let z : 0 < length (take (e - v) (drop v s)) = there (take (e - v) (drop v s)) 0 90 h in
    omega (arith, rw (length-take, length-drop) at z)

pub via-inside : (c : ℕ) (s : List ℕ) (m : Message) → reading c s ≡ Ok m → m.tag ≤ 2 → m.via < length s
via-inside c s m e l = starts-inside s m.via (behind s m.via) (array-byte (bytes s m.via) (via-kept c s m e l))

-- a value of what is read is no longer than a message may be
pub value-short : (c : ℕ) (s : List ℕ) (m : Message) (v : ℕ) {x : List ℕ} → reading c s ≡ Ok m → x ≡ bytes s v → length x ≤ 32768
value-short c s m v {x} e f = omega (arith, ap length f, part-short s v (behind s v), read_short c s m e)
