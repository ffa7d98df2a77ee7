-- The texts of a message that was read, found in its bytes or decoded into a buffer of 64, which they all fit. Assumes nothing.
use Rattle.std.specs.Prelude.{Some}
use Prim.Native.Nat.{ℕ, ◌+◌}
use Rattle.escapes.proofs.LengthLaws.{as_long}
use Rattle.escapes.proofs.PlainLaws.{plain-text}
use Rattle.escapes.specs.Rfc7159.{text}
use Rattle.escapes.specs.Text.{escaped}
use Rattle.values.proofs.SpelledLaws.{own-text}
use Rattle.values.specs.Spans.{cut}
use Rattle.message.specs.Parties.{call_id_of, caller_address_of, callee_address_of, user_of, caller_fire_of, callee_fire_of}
use Rattle.message.specs.declared.facts.Message.{Message}
use Rattle.message.specs.inner.Named.{Named}
use Rattle.rules.proofs.PartLaws.{call_id_length}
use Rattle.rules.proofs.PlainLaws.{call_id_plain}
use Rattle.rules.specs.Texts.{call_id_rule}
use Rattle.table.proofs.KeepLaws.{call_id_of_lem, named-is, named-used}
use Rattle.table.proofs.LookupLaws.{found}
use Rattle.table.specs.Image.{record_at}
use Rattle.table.specs.Search.{place_named}
use Rattle.table.specs.WellFormed.{well_formed}
use lib.ListN.{length, take}
use lib.Seq.{take_all}
use mathlib.Core.Bool.{true, false}
use mathlib.Core.List.{List}
use mathlib.Core.Path.{◌≡◌, sym, ap, ◌∙◌}
use native.Mathlib.Omega.{arith}

module _ (s : List ℕ) (m : Message) (n : Named s m) {w x : List ℕ} (found : x ≡ take 64 (text w)) where
  pub call-text : w ≡ cut s m.callid → x ≡ call_id_of s m
  unfolding call_id_of
  call-text e = found ∙ rw e (take_all 64 (text (cut s m.callid)) (call_id_length _ n.call_id).1)

  pub caller-text : w ≡ cut s m.calleraddress → x ≡ caller_address_of s m
  unfolding caller_address_of
  caller-text e = let l = n.caller-short in found ∙ rw e (take_all 64 (text (cut s m.calleraddress)) (omega arith))

  pub callee-text : w ≡ cut s m.calleeaddress → x ≡ callee_address_of s m
  unfolding callee_address_of
  callee-text e = let l = n.callee-short in found ∙ rw e (take_all 64 (text (cut s m.calleeaddress)) (omega arith))

-- an address that is as long as it is spelled is its own text
module _ (s : List ℕ) (m : Message) (n : Named s m) {w : List ℕ} where
  pub caller-own : w ≡ cut s m.calleraddress → length w ≡ m.callerfire.end + 7 → w ≡ caller_address_of s m
  unfolding caller_address_of
  caller-own e f = e ∙ sym (as_long (cut s m.calleraddress) (sym n.caller-ends ∙ sym f ∙ ap length e))

  pub callee-own : w ≡ cut s m.calleeaddress → length w ≡ m.calleefire.end + 7 → w ≡ callee_address_of s m
  unfolding callee_address_of
  callee-own e f = e ∙ sym (as_long (cut s m.calleeaddress) (sym n.callee-ends ∙ sym f ∙ ap length e))

-- the Call-ID by its spelling w
module _ (s : List ℕ) (m : Message) {w : List ℕ} (is : w ≡ cut s m.callid) where
  call-is : text w ≡ call_id_of s m
  unfolding call_id_of
  call-is = ap text is

  module _ (t : List ℕ) where
    decoded-is : place_named (text w) t ≡ place_named (call_id_of s m) t
    decoded-is = ap (λ (x : List ℕ). place_named x t) call-is

    pub unescaped : escaped w ≡ false → place_named w t ≡ place_named (call_id_of s m) t
    unescaped e = ap (λ (x : List ℕ). place_named x t) (sym (plain-text w e)) ∙ decoded-is

    -- what names a record has no escape, as the record's Call-ID has none
    pub named-own : well_formed t ≡ true → {k : ℕ} → place_named w t ≡ Some k → place_named w t ≡ place_named (call_id_of s m) t
    named-own h {k} p =
        let f = found w t k p in
        let u = named-used w (record_at t k) f.passes in
        let r : call_id_rule w ≡ true = ap call_id_rule (sym (named-is w (record_at t k) f.passes)) ∙ call_id_of_lem t h k f.inside u in
        ap (λ (x : List ℕ). place_named x t) (sym (own-text call_id_plain w r)) ∙ decoded-is

-- the parties in the addresses' texts
module _ (s : List ℕ) (m : Message) {a p : List ℕ} where
  pub user-text : a ≡ caller_address_of s m → p ≡ cut a m.user → p ≡ user_of s m
  unfolding user_of
  user-text e f = f ∙ rw e

  pub caller-fire-text : a ≡ caller_address_of s m → p ≡ cut a m.callerfire → p ≡ caller_fire_of s m
  unfolding caller_fire_of
  caller-fire-text e f = f ∙ rw e

  pub callee-fire-text : a ≡ callee_address_of s m → p ≡ cut a m.calleefire → p ≡ callee_fire_of s m
  unfolding callee_fire_of
  callee-fire-text e f = f ∙ rw e
