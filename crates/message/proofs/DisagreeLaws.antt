-- Row 10: where fields disagree. Assumes nothing.
use Prim.Native.Nat.{ℕ}
use Rattle.message.specs.Message.{caller_in, callback_training, request_disagrees, response_disagrees, sides_disagree, disagrees, from_caller, to_caller}
use Rattle.message.specs.declared.facts.Facts.{Facts}
use Rattle.message.specs.inner.Facts.{FactsOf}
use Rattle.fields.specs.declared.judging.Setting.{Setting}
use Rattle.std.proofs.Math.Bool.{or_assoc}
use Rattle.std.specs.Prelude.{Some}
use borrow.Author.Tests.{ne_eqb}
use lib.Dec.{eqb}
use lib.ListN.{get_or}
use mathlib.Core.Bool.{Bool, false, not, ◌&&◌, ◌||◌, or-false}
use mathlib.Core.List.{List}
use mathlib.Core.Path.{◌≡◌, ap, sym, ◌∙◌}

-- Row 10, of a request: nothing in a response; by the method in a request.

module _ (s : List ℕ) (k : Setting) (t : List ℕ) (from : Bool) where
  pub not-request : (k.tag ≡ 1 → ⊥) → false ≡ (eqb k.tag 1 && request_disagrees s k t from)
  not-request e = rw (ne_eqb k.tag 1 e)

  pub an_invite : k.tag ≡ 1 → k.method ≡ 1 → {r : Bool} → r ≡ callback_training s (get_or t 19 0) (get_or t 15 0) → r ≡ (eqb k.tag 1 && request_disagrees s k t from)
  unfolding request_disagrees
  an_invite e f g = g ∙ sym (rw (e, f) (or-false (callback_training s (get_or t 19 0) (get_or t 15 0))))

  pub no-invite : k.tag ≡ 1 → (k.method ≡ 1 → ⊥) → {r : Bool} → r ≡ (eqb k.method 5 && (not from && not (eqb k.content 1)))
      → r ≡ (eqb k.tag 1 && request_disagrees s k t from)
  unfolding request_disagrees
  no-invite e f g = g ∙ sym (rw (e, ne_eqb k.method 1 f))

-- the whole of it
module _ (s : List ℕ) (k : Setting) (t : List ℕ) {x : Facts} (h : FactsOf s k.tag t x) where
  module _ {sent meant sides request response : Bool} where
    pub row_ten : sent ≡ caller_in (Some x.from) → meant ≡ caller_in (Some x.to) → sides ≡ sides_disagree k.method x.number sent meant
        → request ≡ (eqb k.tag 1 && request_disagrees s k t sent) → response ≡ (eqb k.tag 2 && response_disagrees x.code k.method)
        → ((sides || request) || response) ≡ disagrees s k t
    unfolding disagrees from_caller to_caller
    row_ten a b c d e = or_assoc sides request response ∙ rw (e, d, c, a, b, h.numbered, h.coded, ap caller_in h.sent, ap caller_in h.meant)
