-- The fixed byte strings of 01 Reading: tags, methods, the known fields, the members of an object of Via.
-- What the contracts of `src/names.rt` cite. Assumes nothing.
use Rattle.std.specs.Prelude.{ℕ, List, ◌∷◌, [], get_or}
use Rattle.octets.specs.Ascii.{ascii}

-- the tags, numbered from 1
abbrev pub tags : List (List ℕ)
tags = ascii "request" ∷ ascii "response" ∷ ascii "ping" ∷ ascii "pong" ∷ []

-- the methods, codes 1 to 8
abbrev pub methods : List (List ℕ)
methods =
    ascii "INVITE"
    ∷ ascii "BYE"
    ∷ ascii "CANCEL"
    ∷ ascii "ACK"
    ∷ ascii "MESSAGE"
    ∷ ascii "CALLBACK"
    ∷ ascii "REFER"
    ∷ ascii "NOTIFY"
    ∷ []

-- the known fields by number, from 1
abbrev pub fields : List (List ℕ)
fields =
    ascii "CSeq"
    ∷ ascii "To"
    ∷ ascii "From"
    ∷ ascii "Date"
    ∷ ascii "Call-ID"
    ∷ ascii "Via"
    ∷ ascii "Status"
    ∷ ascii "Message-ID"
    ∷ ascii "Content-Type"
    ∷ ascii "Body"
    ∷ ascii "Refer-To"
    ∷ ascii "Referred-By"
    ∷ ascii "Refer-Memo"
    ∷ ascii "Session-ID"
    ∷ ascii "Call-Mode"
    ∷ ascii "Call-Test"
    ∷ ascii "Secure-Call"
    ∷ ascii "Rescuee"
    ∷ ascii "Request-Service"
    ∷ ascii "Language"
    ∷ ascii "Locations"
    ∷ ascii "User-Agent"
    ∷ ascii "Caller"
    ∷ ascii "Options"
    ∷ ascii "Destination"
    ∷ ascii "Responded-By"
    ∷ []

-- the members of an object of Via, numbered from 1
abbrev pub hop_members : List (List ℕ)
hop_members = ascii "host" ∷ ascii "destination" ∷ ascii "organization" ∷ []

-- the name of a known field; nothing for any other number
unfoldable pub field_name : ℕ → List ℕ
field_name k = get_or ([] ∷ fields) k []
