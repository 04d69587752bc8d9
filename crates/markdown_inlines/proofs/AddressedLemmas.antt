-- The addresses in the text of a forest are those in its tokens.
use Rattle.std.proofs.Common.{◌≡◌, ℕ, zero, suc, ◌+◌, ◌≤◌, Bool, true, false, cond, ◌&&◌, List, [], ◌∷◌, ◌++◌}
use Rattle.std.proofs.Common.{length, take, drop, refl, ap, sym, ◌∙◌, append_assoc, append-nil, arith}
use Rattle.std.specs.Prelude.{◌||◌, not, nat_lt, Option, Some, None}
use Rattle.std.proofs.lemmas.Bool.{and_from, and_parts}
use Rattle.std.proofs.lemmas.List.{drop-drop, drop-take, length-drop, take-append-drop, take-take}
use Rattle.md_engine.specs.declared.event.Name.{Name}
use Rattle.md_engine.specs.declared.event.Name.TheVariants as n
use Rattle.md_events.specs.Events.Pieces.{is_piece_name}
use Rattle.md_inline_events.specs.Forest.{Forest, has_names, nothing, over, part, piece, size}
use Rattle.md_inline_events.specs.Tokens.{around, tokens}
use Rattle.md_inline_events.specs.declared.token.Token.{Token}
use Rattle.md_inline_events.specs.declared.token.Token.TheVariants as t
use Rattle.md_inlines.specs.Atoms.{beside, byte, is_data, literal_name, merged}
use Rattle.md_inlines.specs.Emails.{emails_at_most, emails_in, holds_text, with_emails}
use Rattle.md_inlines.specs.Literal.{email_at}
use Rattle.md_inlines.specs.declared.Literal.{Literal}
use Rattle.md_inlines.specs.declared.LiteralKind.{LiteralKind}
use Rattle.md_inlines.specs.declared.LiteralKind.TheVariants as literal
use Rattle.proof_inlines.proofs.ContentForests.{PartNames, part-names, piece-names, size-part, size-piece}
use Rattle.proof_inlines.proofs.LiteralLemmas.{emails-over}
use Rattle.markdown_inlines.specs.Addressed.{begun, ended, joined_after, searched, token_searched}
use Rattle.markdown_inlines.specs.Readable.{begins_apart, is_readable}
use Rattle.markdown_inlines.proofs.JoinedLemmas.{joined-tokens, none-size, size-none}

-- a text up to a later place
pub take-further : (at len : ℕ) (text : List ℕ) → take at text ++ take len (drop at text) ≡ take (at + len) text
take-further at len text =
    let within : at ≤ at + len = omega arith in
    ap (λ l. l ++ take len (drop at text)) (sym (take-take at (at + len) text within))
    ∙ ap (λ l. take at (take (at + len) text) ++ l) (sym (drop-take at len text))
    ∙ take-append-drop at (take (at + len) text)

-- A part.

around-list : (name : Name) (token : Token) (list ys rest : List Token) →
    (around name (token ∷ list) ++ ys) ++ rest ≡
    t.Enters name ∷ ((token ∷ list) ++ (t.Leaves name ∷ (ys ++ rest)))
around-list name token list ys rest =
    ap (λ (l : List Token). t.Enters name ∷ l)
    (append_assoc ((token ∷ list) ++ t.Leaves name ∷ []) ys rest
    ∙ append_assoc (token ∷ list) (t.Leaves name ∷ []) (ys ++ rest))

ended-begun : (hidden : ℕ) (name : Name) → ended (begun hidden name) ≡ hidden
ended-begun zero name = go (holds_text name)
  where
    go : (b : Bool) → ended (cond b 0 1) ≡ 0
    go true = refl
    go false = refl
ended-begun (suc hidden) name = refl

beside-tokens : (f g : Forest) → tokens (beside f g) ≡ tokens f ++ tokens g
beside-tokens nothing g = refl
beside-tokens (piece name more following) g =
    ap (λ (l : List Token). t.Over name (suc more) ∷ l) (beside-tokens following g)
beside-tokens (part name inside following) g =
    ap (λ (l : List Token). around name (tokens inside) ++ l) (beside-tokens following g)
    ∙ sym (append_assoc (around name (tokens inside)) (tokens following) (tokens g))

module _ (text : List ℕ) where
  -- what is in a part is searched, and what follows it
  part-searched : (hidden at : ℕ) (name : Name) (inside following made rest : Forest) (list : List Token) →
      size made ≡ size inside →
      ((tail : List Token) → searched text (begun hidden name) at (tokens inside ++ tail) ≡
      tokens made ++ searched text (begun hidden name) (at + size inside) tail) →
      searched text hidden (at + size inside) (tokens following ++ list) ≡
      tokens rest ++ searched text hidden (at + size inside + size following) list →
      searched text hidden at (tokens (part name inside following) ++ list) ≡
      tokens (part name made rest) ++ searched text hidden (at + size (part name inside following)) list
  part-searched hidden at name inside following made rest list sized first second =
      go (tokens inside) refl (tokens made) refl
      ∙ ap (λ (k : ℕ). tokens (part name made rest) ++ searched text hidden k list) place
    where
      place : at + size inside + size following ≡ at + size (part name inside following)
      place = omega (arith, size-part name inside following)

      tail : List Token
      tail = searched text hidden (at + size inside + size following) list

      go : (own : List Token) → tokens inside ≡ own → (other : List Token) → tokens made ≡ other →
          searched text hidden at ((around name own ++ tokens following) ++ list) ≡
          (around name other ++ tokens rest) ++ tail
      go [] is other other_is =
          let empty : size inside ≡ 0 = none-size inside is in
          let none : other ≡ [] = sym other_is ∙ size-none made (sized ∙ empty) in
          let here : at ≡ at + size inside = omega (arith, empty) in
          ap (λ (k : ℕ). searched text hidden k (tokens following ++ list)) here
          ∙ second
          ∙ ap (λ (l : List Token). (around name l ++ tokens rest) ++ tail) (sym none)
      go (token ∷ own) is [] other_is =
          let none : tokens inside ≡ [] = size-none inside (sym sized ∙ none-size made other_is) in
          cc
      go (token ∷ own) is (next ∷ other) other_is =
          ap (searched text hidden at) (around-list name token own (tokens following) list)
          ∙ ap (λ (l : List Token). t.Enters name ∷ l)
          (ap
          (λ (l : List Token). searched text (begun hidden name) at (l ++ t.Leaves name ∷ (tokens following ++ list)))
          (sym is)
          ∙ first (t.Leaves name ∷ (tokens following ++ list))
          ∙ ap (λ (l : List Token). l ++ t.Leaves name ∷ searched text (ended (begun hidden name)) (at + size inside)
          (tokens following ++ list)) other_is
          ∙ ap (λ (k : ℕ). (next ∷ other) ++ t.Leaves name ∷ searched text k (at + size inside)
          (tokens following ++ list)) (ended-begun hidden name)
          ∙ ap (λ (l : List Token). (next ∷ other) ++ t.Leaves name ∷ l) second)
          ∙ sym (around-list name next other (tokens rest) tail)

  -- what is in a part that is not searched stays
  hidden-searched : (forest : Forest) (hidden at : ℕ) (list : List Token) →
      searched text (suc hidden) at (tokens forest ++ list) ≡
      tokens forest ++ searched text (suc hidden) (at + size forest) list
  hidden-searched nothing hidden at list =
      let same : at ≡ at + 0 = omega arith in
      ap (λ (k : ℕ). searched text (suc hidden) k list) same
  hidden-searched (piece name more following) hidden at list =
      let place : at + suc more + size following ≡ at + size (piece name more following) =
      omega (arith, size-piece name more following) in
      ap (λ (l : List Token). t.Over name (suc more) ∷ l)
      (hidden-searched following hidden (at + suc more) list
      ∙ ap (λ (k : ℕ). tokens following ++ searched text (suc hidden) k list) place)
  hidden-searched (part name inside following) hidden at list =
      part-searched (suc hidden) at name inside following inside following list refl
      (hidden-searched inside (suc hidden) at) (hidden-searched following hidden (at + size inside) list)

  piece-searched : (name : Name) (more at : ℕ) →
      token_searched text 0 at (t.Over name (suc more)) ≡
      tokens
      (cond (is_data name) (emails_in (take at text) (take (suc more) (drop at text))) (piece name more nothing))
  piece-searched name more at = go (is_data name)
    where
      cut : List ℕ
      cut = take (at + suc more) text

      go : (b : Bool) →
          cond b (tokens (emails_in (take at cut) (drop at cut))) (t.Over name (suc more) ∷ []) ≡
          tokens (cond b (emails_in (take at text) (take (suc more) (drop at text))) (piece name more nothing))
      go true =
          let within : at ≤ at + suc more = omega arith in
          ap (λ (l : List ℕ). tokens (emails_in l (drop at cut))) (take-take at (at + suc more) text within)
          ∙ ap (λ (l : List ℕ). tokens (emails_in (take at text) l)) (drop-take at (suc more) text)
      go false = refl

  after-front : (forest : Forest) (at len : ℕ) →
      with_emails (take (at + len) text) (drop (at + len) text) forest ≡
      with_emails (take at text ++ take len (drop at text)) (drop len (drop at text)) forest
  after-front forest at len =
      ap (λ (l : List ℕ). with_emails l (drop (at + len) text) forest) (sym (take-further at len text))
      ∙ ap (λ (l : List ℕ). with_emails (take at text ++ take len (drop at text)) l forest)
      (sym (drop-drop len at text))

  open-searched : (forest : Forest) (at : ℕ) (list : List Token) → has_names forest ≡ true →
      at + size forest ≤ length text →
      searched text 0 at (tokens forest ++ list) ≡
      tokens (with_emails (take at text) (drop at text) forest) ++ searched text 0 (at + size forest) list
  open-searched nothing at list names room =
      let same : at ≡ at + 0 = omega arith in
      ap (λ (k : ℕ). searched text 0 k list) same
  open-searched (piece name more following) at list names room =
      let is : size (piece name more following) ≡ suc more + size following = size-piece name more following in
      let place : at + suc more + size following ≡ at + size (piece name more following) = omega (arith, is) in
      let own : Forest =
      cond (is_data name) (emails_in (take at text) (take (suc more) (drop at text))) (piece name more nothing) in
      let tail : Forest = with_emails (take (at + suc more) text) (drop (at + suc more) text) following in
      let rest : Forest =
      with_emails (take at text ++ take (suc more) (drop at text)) (drop (suc more) (drop at text)) following in
      ap (λ (l : List Token). l ++ searched text 0 (at + suc more) (tokens following ++ list))
      (piece-searched name more at)
      ∙ ap (λ (l : List Token). tokens own ++ l)
      (open-searched following (at + suc more) list (piece-names name following names).1 (omega (arith, is, room))
      ∙ ap (λ (k : ℕ). tokens tail ++ searched text 0 k list) place
      ∙ ap (λ (f : Forest). tokens f ++ searched text 0 (at + size (piece name more following)) list)
      (after-front following at (suc more)))
      ∙ sym (append_assoc (tokens own) (tokens rest) (searched text 0 (at + size (piece name more following)) list))
      ∙ ap (λ (l : List Token). l ++ searched text 0 (at + size (piece name more following)) list)
      (sym (beside-tokens own rest))
  open-searched (part name inside following) at list names room =
      part-searched 0 at name inside following (own (holds_text name)) rest list (sized (holds_text name))
      (within (holds_text name) (λ (tail : List Token). open-searched inside at tail parts.inner fits))
      (open-searched following (at + size inside) list parts.next (omega (arith, is, room))
      ∙ ap (λ (f : Forest). tokens f ++ searched text 0 (at + size inside + size following) list)
      (after-front following at (size inside)))
    where
      parts : PartNames name inside following
      parts = part-names name inside following names

      is : size (part name inside following) ≡ size inside + size following
      is = size-part name inside following

      fits : at + size inside ≤ length text
      fits = omega (arith, is, room)

      rest : Forest
      rest =
          with_emails (take at text ++ take (size inside) (drop at text)) (drop (size inside) (drop at text)) following

      own : Bool → Forest
      own b = cond b (with_emails (take at text) (drop at text) inside) inside

      sized : (b : Bool) → size (own b) ≡ size inside
      sized true =
          let left : size inside ≤ length (drop at text) = omega (arith, fits, length-drop at text) in
          (emails-over inside (take at text) (drop at text) parts.inner left).sized
      sized false = refl

      within : (b : Bool) →
          ((tail : List Token) → searched text 0 at (tokens inside ++ tail) ≡
          tokens (own true) ++ searched text 0 (at + size inside) tail) →
          (tail : List Token) → searched text (cond b 0 1) at (tokens inside ++ tail) ≡
          tokens (own b) ++ searched text (cond b 0 1) (at + size inside) tail
      within true found = found
      within false found = hidden-searched inside 0 at

-- Addresses leave a forest readable.

literal-piece : (kind : LiteralKind) → is_piece_name (literal_name kind) ≡ true
literal-piece literal.Www = refl
literal-piece literal.Protocol = refl
literal-piece literal.Email = refl
literal-piece literal.Mailto = refl
literal-piece literal.Xmpp = refl

over-beside : (name : Name) (len : ℕ) (f g : Forest) → beside (over name len f) g ≡ over name len (beside f g)
over-beside name zero f g = refl
over-beside name (suc more) f g = refl

over-readable : (kind : LiteralKind) (len : ℕ) (forest : Forest) →
    is_readable (over (literal_name kind) len forest) ≡ is_readable forest
over-readable kind zero forest = refl
over-readable kind (suc more) forest = ap (λ (b : Bool). b && is_readable forest) (literal-piece kind)

emails-readable : (more : ℕ) (before text : List ℕ) (forest : Forest) →
    is_readable (beside (emails_at_most more before text) forest) ≡ is_readable forest
emails-readable zero before text forest = refl
emails-readable (suc more) before [] forest = refl
emails-readable (suc more) before (b ∷ text) forest =
    go (email_at before (b ∷ text)) (λ (front rest : List ℕ). emails-readable more front rest forest)
  where
    go : (o : Option Literal) →
        ((front rest : List ℕ) →
        is_readable (beside (emails_at_most more front rest) forest) ≡ is_readable forest) →
        is_readable
        (beside
        (elim o as (λ (_ : Option Literal). Forest) [
          | Some found ↦ over (literal_name found.kind) found.len
              (emails_at_most more (before ++ take found.len (b ∷ text)) (drop found.len (b ∷ text)))
          | None ↦ byte n.Data (emails_at_most more (before ++ b ∷ []) text)
        ])
        forest) ≡
        is_readable forest
    go (Some found) same =
        let rest : Forest = emails_at_most more (before ++ take found.len (b ∷ text)) (drop found.len (b ∷ text)) in
        ap is_readable (over-beside (literal_name found.kind) found.len rest forest)
        ∙ over-readable found.kind found.len (beside rest forest)
        ∙ same (before ++ take found.len (b ∷ text)) (drop found.len (b ∷ text))
    go None same = same (before ++ b ∷ []) text

or-kept : (a b c : Bool) → (b ≡ true → c ≡ true) → (a || b) ≡ true → (a || c) ≡ true
or-kept true b c f h = refl
or-kept false b c f h = f h

addresses-size : (forest : Forest) (before text : List ℕ) (name : Name) → has_names forest ≡ true →
    size forest ≤ length text →
    size (cond (holds_text name) (with_emails before text forest) forest) ≡ size forest
addresses-size forest before text name names room = go (holds_text name)
  where
    go : (b : Bool) → size (cond b (with_emails before text forest) forest) ≡ size forest
    go true = (emails-over forest before text names room).sized
    go false = refl

addresses-apart : (forest : Forest) (before text : List ℕ) → has_names forest ≡ true → size forest ≤ length text →
    begins_apart forest ≡ true → begins_apart (with_emails before text forest) ≡ true
addresses-apart nothing before text names room h = refl
addresses-apart (piece name more following) before text names room h = go (is_data name) refl h
  where
    rest : Forest
    rest = with_emails (before ++ take (suc more) text) (drop (suc more) text) following

    go : (b : Bool) → is_data name ≡ b → not b ≡ true →
        begins_apart (beside (cond b (emails_in before (take (suc more) text)) (piece name more nothing)) rest) ≡ true
    go true e h = cc
    go false e h = ap not e
addresses-apart (part name inside following) before text names room h =
    let parts = part-names name inside following names in
    let is : size (part name inside following) ≡ size inside + size following = size-part name inside following in
    ap (nat_lt 0) (addresses-size inside before text name parts.inner (omega (arith, is, room))) ∙ h

addresses-readable : (forest : Forest) (before text : List ℕ) → has_names forest ≡ true →
    size forest ≤ length text → is_readable forest ≡ true → is_readable (with_emails before text forest) ≡ true
addresses-readable nothing before text names room h = refl
addresses-readable (piece name more following) before text names room h =
    go (is_data name)
    (addresses-readable following (before ++ take (suc more) text) (drop (suc more) text)
    (piece-names name following names).1
    (omega (arith, room, size-piece name more following, length-drop (suc more) text)) parts.1)
  where
    parts : (is_piece_name name ≡ true) × (is_readable following ≡ true)
    parts = and_parts (is_piece_name name) (is_readable following) h

    rest : Forest
    rest = with_emails (before ++ take (suc more) text) (drop (suc more) text) following

    go : (b : Bool) → is_readable rest ≡ true →
        is_readable (beside (cond b (emails_in before (take (suc more) text)) (piece name more nothing)) rest) ≡ true
    go true next = emails-readable (length (take (suc more) text)) before (take (suc more) text) rest ∙ next
    go false next = and_from (is_piece_name name) (is_readable rest) parts.0 next
addresses-readable (part name inside following) before text names room h =
    and_from (not (is_piece_name name)) _ outer.0
    (and_from (nat_lt 0 (size own) || begins_apart rest) (is_readable own && is_readable rest)
    (ap (λ (k : ℕ). nat_lt 0 k || begins_apart rest)
    (addresses-size inside before text name parts.inner (omega (arith, is, room)))
    ∙ or-kept (nat_lt 0 (size inside)) (begins_apart following) (begins_apart rest)
    (addresses-apart following (before ++ take (size inside) text) (drop (size inside) text) parts.next left) both.0)
    (and_from (is_readable own) (is_readable rest)
    (within (holds_text name)
    (addresses-readable inside before text parts.inner (omega (arith, is, room)) inner.0))
    (addresses-readable following (before ++ take (size inside) text) (drop (size inside) text) parts.next left
    inner.1)))
  where
    parts : PartNames name inside following
    parts = part-names name inside following names

    is : size (part name inside following) ≡ size inside + size following
    is = size-part name inside following

    left : size following ≤ length (drop (size inside) text)
    left = omega (arith, is, room, length-drop (size inside) text)

    own : Forest
    own = cond (holds_text name) (with_emails before text inside) inside

    rest : Forest
    rest = with_emails (before ++ take (size inside) text) (drop (size inside) text) following

    outer : (not (is_piece_name name) ≡ true)
        × (((nat_lt 0 (size inside) || begins_apart following) && (is_readable inside && is_readable following)) ≡ true)
    outer =
        and_parts (not (is_piece_name name))
        ((nat_lt 0 (size inside) || begins_apart following) && (is_readable inside && is_readable following)) h

    both : ((nat_lt 0 (size inside) || begins_apart following) ≡ true)
        × ((is_readable inside && is_readable following) ≡ true)
    both =
        and_parts (nat_lt 0 (size inside) || begins_apart following) (is_readable inside && is_readable following)
        outer.1

    inner : (is_readable inside ≡ true) × (is_readable following ≡ true)
    inner = and_parts (is_readable inside) (is_readable following) both.1

    within : (b : Bool) → is_readable (with_emails before text inside) ≡ true →
        is_readable (cond b (with_emails before text inside) inside) ≡ true
    within true h = h
    within false h = inner.0

-- All of a forest that is over the rest of a text: what is made of its tokens is what is made of it.
pub addressed-tokens : (text : List ℕ) (start : ℕ) (forest : Forest) → has_names forest ≡ true →
    is_readable forest ≡ true → start + size forest ≡ length text →
    joined_after 0 (searched text 0 start (tokens forest)) ≡
    tokens (merged (with_emails (take start text) (drop start text) forest))
addressed-tokens text start forest names readable sized =
    let room : size forest ≤ length (drop start text) = omega (arith, sized, length-drop start text) in
    let made : Forest = with_emails (take start text) (drop start text) forest in
    ap (λ (l : List Token). joined_after 0 (searched text 0 start l)) (sym (append-nil (tokens forest)))
    ∙ ap (joined_after 0) (open-searched text forest start [] names (omega (arith, sized)) ∙ append-nil (tokens made))
    ∙ joined-tokens made 0 (emails-over forest (take start text) (drop start text) names room).names
    (addresses-readable forest (take start text) (drop start text) names room readable)
