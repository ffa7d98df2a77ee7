-- The numbers of tags, methods, Content-Types and known fields by name: each is its place in the list of Names.antt or Words.antt. Assumes nothing.
use Rattle.std.specs.Prelude.{ℕ}

-- the tags
abbrev pub tag_request : ℕ
tag_request = 1

abbrev pub tag_response : ℕ
tag_response = 2

abbrev pub tag_pong : ℕ
tag_pong = 4

-- the methods
abbrev pub method_invite : ℕ
method_invite = 1

abbrev pub method_cancel : ℕ
method_cancel = 3

abbrev pub method_ack : ℕ
method_ack = 4

abbrev pub method_message : ℕ
method_message = 5

abbrev pub method_callback : ℕ
method_callback = 6

abbrev pub method_refer : ℕ
method_refer = 7

abbrev pub method_notify : ℕ
method_notify = 8

-- the Content-Types; the image's two by the first part of their names
abbrev pub content_text : ℕ
content_text = 1

abbrev pub content_text_image : ℕ
content_text_image = 2

abbrev pub content_message_image : ℕ
content_message_image = 3

abbrev pub content_presence : ℕ
content_presence = 4

abbrev pub content_location : ℕ
content_location = 5

-- the known fields
abbrev pub field_cseq : ℕ
field_cseq = 1

abbrev pub field_to : ℕ
field_to = 2

abbrev pub field_from : ℕ
field_from = 3

abbrev pub field_call_id : ℕ
field_call_id = 5

abbrev pub field_via : ℕ
field_via = 6

abbrev pub field_status : ℕ
field_status = 7

abbrev pub field_content_type : ℕ
field_content_type = 9

abbrev pub field_body : ℕ
field_body = 10

abbrev pub field_call_mode : ℕ
field_call_mode = 15

abbrev pub field_secure_call : ℕ
field_secure_call = 17

abbrev pub field_rescuee : ℕ
field_rescuee = 18

abbrev pub field_request_service : ℕ
field_request_service = 19

abbrev pub field_locations : ℕ
field_locations = 21

abbrev pub field_caller : ℕ
field_caller = 23

-- of Call-Mode `training`, of Rescuee `third-party`, of Request-Service `ambulance`
abbrev pub mode_training : ℕ
mode_training = 2

abbrev pub rescuee_third_party : ℕ
rescuee_third_party = 2

abbrev pub service_ambulance : ℕ
service_ambulance = 1

-- what a run asks of a field
abbrev pub unlisted : ℕ
unlisted = 0

abbrev pub required : ℕ
required = 1

abbrev pub optional : ℕ
optional = 2
