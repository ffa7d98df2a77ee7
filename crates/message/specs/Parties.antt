-- The texts that name a call and its two parties (01 Reading, To and From; 01 Events, 21; 02 §2): what the layers above compare and store of a
-- message m that was read of s. They are spelled where `message_of` says. Total on any text and any facts. Assumes nothing.
use Rattle.std.specs.Prelude.{ℕ, List}
use Rattle.escapes.specs.Rfc7159.{text}
use Rattle.values.specs.Spans.{cut}
use Rattle.message.specs.declared.facts.Message.{Message}

-- the Call-ID
unfoldable pub call_id_of : List ℕ → Message → List ℕ
call_id_of s m = text (cut s m.callid)

-- the caller's address and the callee's
unfoldable pub caller_address_of : List ℕ → Message → List ℕ
caller_address_of s m = text (cut s m.calleraddress)

unfoldable pub callee_address_of : List ℕ → Message → List ℕ
callee_address_of s m = text (cut s m.calleeaddress)

-- the user, the caller's Fire-ID and the callee's
unfoldable pub user_of : List ℕ → Message → List ℕ
user_of s m = cut (caller_address_of s m) m.user

unfoldable pub caller_fire_of : List ℕ → Message → List ℕ
caller_fire_of s m = cut (caller_address_of s m) m.callerfire

unfoldable pub callee_fire_of : List ℕ → Message → List ℕ
callee_fire_of s m = cut (callee_address_of s m) m.calleefire
