-- Inner: what the reading of a request or a response sees to, for those who go on with it. Tied to `reading` by `facts` in `proofs/Accepted.antt`.
-- Assumes nothing.
use Rattle.std.specs.Prelude.{ℕ, ◌+◌, ◌≤◌, ◌<◌, length, true, List, ◌≡◌}
use Rattle.message.specs.Parties.{call_id_of, caller_address_of, callee_address_of, user_of, caller_fire_of, callee_fire_of}
use Rattle.message.specs.declared.facts.Message.{Message}
use Rattle.rules.specs.Texts.{call_id_rule, user_rule, fire_rule}

-- its texts keep their rules, its addresses are short and end behind their Fire-IDs, and its numbers are in their ranges
pub record Named (s : List ℕ) (m : Message) : Type 0 where
  pub call_id : call_id_rule (call_id_of s m) ≡ true
  pub caller-ends : m.callerfire.end + 7 ≡ length (caller_address_of s m)
  pub callee-ends : m.calleefire.end + 7 ≡ length (callee_address_of s m)
  pub caller-short : length (caller_address_of s m) ≤ 45
  pub callee-short : length (callee_address_of s m) ≤ 45
  pub user : user_rule (user_of s m) ≡ true
  pub caller-fire : fire_rule (caller_fire_of s m) ≡ true
  pub callee-fire : fire_rule (callee_fire_of s m) ≡ true
  pub number-low : 1 ≤ m.number
  pub number-high : m.number < 4294967296
  pub method-low : 1 ≤ m.method
  pub method-high : m.method ≤ 8
  pub status-high : m.status < 1000
  pub status-range : m.tag ≡ 2 → (100 ≤ m.status) × (m.status ≤ 699)
