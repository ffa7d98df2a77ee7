-- An accepted message in frame's words: where a member of it stands (`field-member`, `via-member`). Assumes nothing.
use Prim.Native.Nat.{ℕ, ◌≤◌}
use Rattle.frame.proofs.Forwarding.{MemberAt}
use Rattle.json_text.specs.Places.{value_of, members}
use Rattle.message.proofs.AcceptedRows.{Accepted}
use Rattle.message.proofs.MemberLaws.{shape, field_where, via_where}
use Rattle.message.proofs.PairLaws.{Where}
use Rattle.message.specs.Shape.{object_of}
use Rattle.rules.specs.Names.{fields}
use lib.ListN.{get_or}
use mathlib.Core.List.{List}
use mathlib.Core.Path.{ap, ◌∙◌}

module _ {s : List ℕ} {tag : ℕ} {t : List ℕ} (a : Accepted s tag t) where
  member_of : (k o : ℕ) (w : Where fields s k (members s (object_of s)) o) → MemberAt s (shape a).x (shape a).y w.n o
  member_of k o w = record {
    end = a.end;
    ends = a.json;
    array = (shape a).array;
    two = (shape a).two;
    object = (shape a).object;
    there = rw (← (shape a).at) w.few;
    place = w.is ∙ ap (λ (o : ℕ). value_of s (get_or (members s o) w.n 0)) (shape a).at;
  }

  -- where a field that every request and response has stands
  pub field-member : (k : ℕ) (h : 1 ≤ k) (g : k ≤ 6) → MemberAt s (shape a).x (shape a).y (field_where a k h g).n (get_or t k 0)
  field-member k h g = member_of k (get_or t k 0) (field_where a k h g)

  pub via-member : MemberAt s (shape a).x (shape a).y (via_where a).n (get_or t 6 0)
  via-member = member_of 6 (get_or t 6 0) (via_where a)
