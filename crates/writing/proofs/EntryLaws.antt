-- Our entry is an object that stands by itself (`entry-piece`), and it is an object of Via with our three texts (`entry-hop`). Assumes nothing.
use Rattle.octets.proofs.TestLaws.{and_parts}
use Prim.Native.Nat.{ℕ}
use Rattle.escapes.proofs.PlainLaws.{plain-text, plain-unescaped, plain-whole}
use Rattle.escapes.specs.Rfc7159.{is_broken, letter_of, letters_from, lone, spelt, text, took}
use Rattle.frame.proofs.Compact.{Pair, Sounds, told, compact, pair_text, pairs_text, compact-members, compact-piece}
use Rattle.frame.proofs.Standing.{Piece}
use Rattle.frame.proofs.Written.{plainly, in_quotes, text-piece, plain-name}
use Rattle.json_text.proofs.Listing.{name-is}
use Rattle.json_text.specs.Places.{members, spell}
use Rattle.values.specs.Value.{is_string, spelling_of, text_of, ruled, word_spelled}
use Rattle.fields.specs.Via.{hop_rule, is_hop}
use Rattle.octets.specs.Ascii.{ascii}
use Rattle.octets.specs.Text.{same}
use Rattle.octets.specs.Class.{all}
use Rattle.rules.proofs.PlainLaws.{is_plain, destination_plain, host-plain, organization_plain}
use Rattle.rules.specs.Names.{hop_members}
use Rattle.rules.specs.Pieces.{word_number_from}
use Rattle.rules.specs.Texts.{host_rule, destination_rule, organization_rule}
use Rattle.message.proofs.HopPairs.{HopBy, three, pairs_hop}
use Rattle.message.proofs.PairLaws.{found, value_in, doubled}
use Rattle.writing.proofs.WordLaws.{plain-plainly}
use Rattle.writing.specs.Adding.{entry, path_rule}
use lib.ListN.{get_or}
use mathlib.Core.Bool.{Bool, true, ◌&&◌}
use mathlib.Core.List.{List, [], ◌∷◌, ◌++◌, append_assoc, map}
use mathlib.Core.Path.{◌≡◌, refl, sym, ap, subst, ◌∙◌}

-- Our entry.
abbrev host_pair : List ℕ → Pair
host_pair h = record { name = ascii "host"; val = in_quotes h }

abbrev destination_pair : List ℕ → Pair
destination_pair d = record { name = ascii "destination"; val = in_quotes d }

abbrev organization_pair : List ℕ → Pair
organization_pair o = record { name = ascii "organization"; val = in_quotes o }

quoted : (h t : List ℕ) → (h ++ (34 ∷ [])) ++ t ≡ h ++ (34 ∷ t)
quoted h t = append_assoc h (34 ∷ []) t

entry-compact : (h d o : List ℕ) → compact (host_pair h) (destination_pair d ∷ organization_pair o ∷ []) [] ≡ entry h d o
unfolding entry pairs_text pair_text
entry-compact h d o = rw (quoted h, quoted d, quoted o)

-- a plain text in quotes, read
quoted-spelling : (x : List ℕ) → all is_plain x ≡ true → spelling_of (in_quotes x) ≡ x
unfolding spelling_of
quoted-spelling x p = name-is (in_quotes x) x [] 0 (plain-name x (plain-plainly x p)).listed refl

pub quoted-text : (x : List ℕ) → all is_plain x ≡ true → text_of (in_quotes x) ≡ x
unfolding text_of
quoted-text x p = ap text (quoted-spelling x p) ∙ plain-text x (plain-unescaped x p)

pub quoted-ruled : (rule : List ℕ → Bool) (x : List ℕ) → all is_plain x ≡ true → rule x ≡ true → ruled rule (in_quotes x) ≡ true
unfolding ruled is_string
quoted-ruled rule x p e = rw (quoted-text x p, quoted-spelling x p, plain-whole x (plain-unescaped x p), e)

module _ (h d o : List ℕ) (k : path_rule h d o ≡ true) where
  rules_kept : (host_rule h ≡ true) × ((destination_rule d ≡ true) × (organization_rule o ≡ true))
  unfolding path_rule
  rules_kept =
      let p = and_parts (host_rule h) (destination_rule d && organization_rule o) k in
      (p.0, and_parts (destination_rule d) (organization_rule o) p.1)

  pub plain-path : (all is_plain h ≡ true) × ((all is_plain d ≡ true) × (all is_plain o ≡ true))
  plain-path = (host-plain.plain h rules_kept.0, (destination_plain.plain d rules_kept.1.0, organization_plain.plain o rules_kept.1.1))

  sounds : Sounds 4 (host_pair h) (destination_pair d ∷ organization_pair o ∷ [])
  unfolding plainly
  sounds =
      let p = plain-path in (
        record { named = refl; piece = text-piece 4 h (plain-plainly h p.0) },
        (record { named = refl; piece = text-piece 4 d (plain-plainly d p.1.0) }, record { named = refl; piece = text-piece 4 o (plain-plainly o p.1.1) }),
      )

  pub entry-piece : Piece 5 (entry h d o)
  entry-piece = subst (Piece 5) (entry-compact h d o) (compact-piece 4 (host_pair h) (destination_pair d ∷ organization_pair o ∷ []) sounds)

  entry-members : map (spell (entry h d o)) (members (entry h d o) 0) ≡ map told (host_pair h ∷ destination_pair d ∷ organization_pair o ∷ [])
  entry-members = compact-members 4 (host_pair h) (destination_pair d ∷ organization_pair o ∷ []) sounds (entry h d o) [] 0 (sym (entry-compact h d o))

  entry-by : HopBy (map told (host_pair h ∷ destination_pair d ∷ organization_pair o ∷ []))
  unfolding doubled found value_in word_spelled is_broken lone text spelt letters_from letter_of took word_number_from same hop_rule
  entry-by =
      let p = plain-path in
      let r = rules_kept in
      let ps = map told (host_pair h ∷ destination_pair d ∷ organization_pair o ∷ []) in
      record {
        once = refl;
        there = three (λ n. found hop_members n ps ≡ true) refl refl refl;
        kept = three (λ n. ruled (hop_rule n) (value_in hop_members n ps) ≡ true) (quoted-ruled (hop_rule 1) h p.0 r.0) (quoted-ruled (hop_rule 2) d p.1.0 r.1.0)
            (quoted-ruled (hop_rule 3) o p.1.1 r.1.1);
      }

  entry-brace : get_or (entry h d o) 0 0 ≡ 123
  unfolding entry
  entry-brace = refl

  pub entry-hop : is_hop (entry h d o) 0 ≡ true
  entry-hop = pairs_hop (entry h d o) 0 entry-brace (subst HopBy (sym entry-members) entry-by)
