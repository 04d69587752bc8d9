-- The addresses in the text of nodes are those of the definition.
use Rattle.std.proofs.Common.{◌≡◌, ℕ, zero, suc, ◌+◌, ◌-◌, ◌<◌, ◌≤◌, Bool, true, false, cond, List, [], ◌∷◌}
use Rattle.std.proofs.Common.{◌++◌, length, take, drop, Option, Some, None, refl, ap, sym, ◌∙◌, arith, append_assoc}
use Rattle.std.proofs.Common.{append-nil}
use Rattle.std.proofs.lemmas.List.{drop-drop, drop-take, length-drop, take-append-drop, take-take}
use Rattle.md_engine.specs.declared.event.Name.{Name}
use Rattle.md_engine.specs.declared.event.Name.TheVariants as n
use Rattle.md_inline_events.specs.Forest.{Forest, nothing, over, part, piece, size}
use Rattle.md_inlines.specs.Literal.{email_at}
use Rattle.md_inlines.specs.declared.Literal.{Literal}
use Rattle.md_inlines.specs.Atoms.{byte, is_data, literal_name}
use Rattle.md_inlines.specs.Emails.{emails_at_most, emails_in, holds_text, with_emails}
use Rattle.proof_inlines.proofs.ContentForests.{size-part, size-piece}
use Rattle.proof_inlines.proofs.LiteralLemmas.{email-at-is}
use Rattle.reference_inlines.specs.Merged.{data_len}
use Rattle.reference_inlines.specs.Nodes.{nodes, pieces}
use Rattle.reference_inlines.specs.Searched.{at_after, begun, data_searched, ended, hidden_after, node_searched}
use Rattle.reference_inlines.specs.Searched.{searched}
use Rattle.reference_inlines.specs.declared.node.Node.{Node}
use Rattle.reference_inlines.specs.declared.node.Node.TheVariants as node
use Rattle.reference_inlines.proofs.NodeLemmas.{nodes-beside, nodes-over}

-- What the tests of the program mean.

pub node_open : (text : List ℕ) (hidden at : ℕ) (nd : Node) → hidden ≡ 0 →
    node_searched text hidden at nd ≡ data_searched text at nd (data_len nd)
node_open text hidden at nd h = ap (λ (k : ℕ). node_searched text k at nd) h

pub node_hidden : (text : List ℕ) (hidden at : ℕ) (nd : Node) → (hidden ≡ 0 → ⊥) →
    node_searched text hidden at nd ≡ nd ∷ []
node_hidden text zero at nd h = absurd (h refl)
node_hidden text (suc hidden) at nd h = refl

pub begin_open : (hidden : ℕ) (name : Name) → hidden ≡ 0 → begun hidden name ≡ cond (holds_text name) 0 1
begin_open hidden name h = ap (λ (k : ℕ). begun k name) h

pub begin_hidden : (hidden : ℕ) (name : Name) → (hidden ≡ 0 → ⊥) → begun hidden name ≡ hidden + 1
begin_hidden zero name h = absurd (h refl)
begin_hidden (suc hidden) name h = omega arith

pub end_any : (hidden : ℕ) → ended hidden ≡ hidden - 1
end_any zero = refl
end_any (suc hidden) = omega arith

-- Addresses in a text.

emails-alike : (more least : ℕ) (before text : List ℕ) → length text ≤ more → length text ≤ least →
    emails_at_most more before text ≡ emails_at_most least before text
emails-alike zero zero before text h k = refl
emails-alike zero (suc least) before [] h k = refl
emails-alike (suc more) zero before [] h k = refl
emails-alike (suc more) (suc least) before [] h k = refl
emails-alike zero (suc least) before (b ∷ text) h k = absurd (omega (arith, h))
emails-alike (suc more) zero before (b ∷ text) h k = absurd (omega (arith, k))
emails-alike (suc more) (suc least) before (b ∷ text) h k =
    go (email_at before (b ∷ text)) (λ found is. (email-at-is before (b ∷ text) found is).some)
    (emails-alike more least)
  where
    go : (o : Option Literal) → ((found : Literal) → o ≡ Some found → 0 < found.len) →
        ((front rest : List ℕ) → length rest ≤ more → length rest ≤ least →
        emails_at_most more front rest ≡ emails_at_most least front rest) →
        elim o as (λ (_ : Option Literal). Forest) [
          | Some found ↦
              over (literal_name found.kind) found.len
              (emails_at_most more (before ++ take found.len (b ∷ text)) (drop found.len (b ∷ text)))
          | None ↦ byte n.Data (emails_at_most more (before ++ b ∷ []) text)
        ] ≡
        elim o as (λ (_ : Option Literal). Forest) [
          | Some found ↦
              over (literal_name found.kind) found.len
              (emails_at_most least (before ++ take found.len (b ∷ text)) (drop found.len (b ∷ text)))
          | None ↦ byte n.Data (emails_at_most least (before ++ b ∷ []) text)
        ]
    go (Some found) some rest =
        let positive : 0 < found.len = some found refl in
        ap (over (literal_name found.kind) found.len)
        (rest (before ++ take found.len (b ∷ text)) (drop found.len (b ∷ text))
        (omega (arith, positive, h, length-drop found.len (b ∷ text)))
        (omega (arith, positive, k, length-drop found.len (b ∷ text))))
    go None some rest = ap (byte n.Data) (rest (before ++ b ∷ []) text (omega (arith, h)) (omega (arith, k)))

email-found : (before : List ℕ) (b : ℕ) (text : List ℕ) (found : Literal) →
    email_at before (b ∷ text) ≡ Some found →
    nodes (emails_in before (b ∷ text)) ≡
    pieces (literal_name found.kind) found.len
    ++ nodes (emails_in (before ++ take found.len (b ∷ text)) (drop found.len (b ∷ text)))
email-found before b text found h =
    let positive : 0 < found.len = (email-at-is before (b ∷ text) found h).some in
    let made : emails_in before (b ∷ text) ≡
    over (literal_name found.kind) found.len
    (emails_at_most (length text) (before ++ take found.len (b ∷ text)) (drop found.len (b ∷ text))) =
    rw (h, emails_at_most) refl in
    ap nodes made
    ∙ nodes-over (literal_name found.kind) found.len
    (emails_at_most (length text) (before ++ take found.len (b ∷ text)) (drop found.len (b ∷ text)))
    ∙ ap (λ (f : Forest). pieces (literal_name found.kind) found.len ++ nodes f)
    (emails-alike (length text) (length (drop found.len (b ∷ text))) (before ++ take found.len (b ∷ text))
    (drop found.len (b ∷ text)) (omega (arith, positive, length-drop found.len (b ∷ text))) (omega arith))

email-none : (before : List ℕ) (b : ℕ) (text : List ℕ) → email_at before (b ∷ text) ≡ None →
    nodes (emails_in before (b ∷ text)) ≡ node.Piece n.Data 1 ∷ nodes (emails_in (before ++ b ∷ []) text)
email-none before b text h =
    let made : emails_in before (b ∷ text) ≡ byte n.Data (emails_at_most (length text) (before ++ b ∷ []) text) =
    rw (h, emails_at_most) refl in
    ap nodes made

-- a text up to a later place
take-further : (at len : ℕ) (text : List ℕ) → take at text ++ take len (drop at text) ≡ take (at + len) text
take-further at len text =
    let within : at ≤ at + len = omega arith in
    ap (λ l. l ++ take len (drop at text)) (sym (take-take at (at + len) text within))
    ∙ ap (λ l. take at (take (at + len) text) ++ l) (sym (drop-take at len text))
    ∙ take-append-drop at (take (at + len) text)

-- the addresses of a text from a place on
abbrev pub emails_from : List ℕ → ℕ → List Node
emails_from text at = nodes (emails_in (take at text) (drop at text))

-- A loop over a text.

pub email-goes : (text : List ℕ) (at : ℕ) (b : ℕ) (following : List ℕ) (before rest : List ℕ) (found : Literal)
    (name : Name) (len next : ℕ) (made more all : List Node) → drop at text ≡ b ∷ following →
    before ≡ take at text → rest ≡ drop at text → Some found ≡ email_at before rest →
    name ≡ literal_name found.kind → len ≡ found.len → next ≡ at + len → more ≡ made ++ pieces name len →
    made ++ emails_from text at ≡ all → more ++ emails_from text next ≡ all
email-goes text at b following before rest found name len next made more all is before_is rest_is h name_is len_is
    next_is more_is done =
    let here : email_at (take at text) (b ∷ following) ≡ Some found =
    ap (email_at (take at text)) (sym is) ∙ ap (email_at (take at text)) (sym rest_is)
    ∙ ap (λ (l : List ℕ). email_at l rest) (sym before_is) ∙ sym h in
    let front : take at text ++ take found.len (b ∷ following) ≡ take (at + found.len) text =
    ap (λ (l : List ℕ). take at text ++ take found.len l) (sym is) ∙ take-further at found.len text in
    let back : drop found.len (b ∷ following) ≡ drop (at + found.len) text =
    ap (drop found.len) (sym is) ∙ drop-drop found.len at text in
    let place : next ≡ at + found.len = next_is ∙ ap (λ (k : ℕ). at + k) len_is in
    let step : emails_from text at ≡ pieces name len ++ emails_from text next =
    ap (λ (l : List ℕ). nodes (emails_in (take at text) l)) is
    ∙ email-found (take at text) b following found here
    ∙ ap (λ (l : List ℕ). pieces (literal_name found.kind) found.len ++ nodes (emails_in l
    (drop found.len (b ∷ following)))) front
    ∙ ap (λ (l : List ℕ). pieces (literal_name found.kind) found.len
    ++ nodes (emails_in (take (at + found.len) text) l)) back
    ∙ ap (λ (k : ℕ). pieces (literal_name found.kind) found.len ++ emails_from text k) (sym place)
    ∙ ap (λ (k : ℕ). pieces (literal_name found.kind) k ++ emails_from text next) (sym len_is)
    ∙ ap (λ (m : Name). pieces m len ++ emails_from text next) (sym name_is) in
    ap (λ (l : List Node). l ++ emails_from text next) more_is
    ∙ append_assoc made (pieces name len) (emails_from text next) ∙ ap (λ (l : List Node). made ++ l) (sym step) ∙ done

pub email-further : (text : List ℕ) (at : ℕ) (b : ℕ) (following : List ℕ) (before rest : List ℕ) (found : Literal)
    (len next : ℕ) → drop at text ≡ b ∷ following → rest ≡ drop at text → Some found ≡ email_at before rest →
    len ≡ found.len → next ≡ at + len → length text - next < length text - at
email-further text at b following before rest found len next is rest_is h len_is next_is =
    let positive : 0 < found.len = (email-at-is before rest found (sym h)).some in
    let some : length text - at ≡ suc (length following) = sym (length-drop at text) ∙ ap length is in
    omega (arith, positive, some, len_is, next_is)

pub plain-email : (text : List ℕ) (at : ℕ) (b : ℕ) (following : List ℕ) (before rest : List ℕ) (next : ℕ)
    (made more all : List Node) → drop at text ≡ b ∷ following → before ≡ take at text → rest ≡ drop at text →
    None ≡ email_at before rest → next ≡ at + 1 → more ≡ made ++ node.Piece n.Data 1 ∷ [] →
    made ++ emails_from text at ≡ all → more ++ emails_from text next ≡ all
plain-email text at b following before rest next made more all is before_is rest_is h next_is more_is done =
    let here : email_at (take at text) (b ∷ following) ≡ None =
    ap (email_at (take at text)) (sym is) ∙ ap (email_at (take at text)) (sym rest_is)
    ∙ ap (λ (l : List ℕ). email_at l rest) (sym before_is) ∙ sym h in
    let front : take at text ++ b ∷ [] ≡ take (at + 1) text =
    ap (λ (l : List ℕ). take at text ++ take 1 l) (sym is) ∙ take-further at 1 text in
    let back : following ≡ drop (at + 1) text = ap (drop 1) (sym is) ∙ drop-drop 1 at text in
    let step : emails_from text at ≡ node.Piece n.Data 1 ∷ emails_from text next =
    ap (λ (l : List ℕ). nodes (emails_in (take at text) l)) is ∙ email-none (take at text) b following here
    ∙ ap (λ (l : List ℕ). node.Piece n.Data 1 ∷ nodes (emails_in l following)) front
    ∙ ap (λ (l : List ℕ). node.Piece n.Data 1 ∷ nodes (emails_in (take (at + 1) text) l)) back
    ∙ ap (λ (k : ℕ). node.Piece n.Data 1 ∷ emails_from text k) (sym next_is) in
    ap (λ (l : List Node). l ++ emails_from text next) more_is
    ∙ append_assoc made (node.Piece n.Data 1 ∷ []) (emails_from text next)
    ∙ ap (λ (l : List Node). made ++ l) (sym step) ∙ done

pub plain-further : (text : List ℕ) (at : ℕ) (b : ℕ) (following : List ℕ) (next : ℕ) → drop at text ≡ b ∷ following →
    next ≡ at + 1 → length text - next < length text - at
plain-further text at b following next is next_is =
    let some : length text - at ≡ suc (length following) = sym (length-drop at text) ∙ ap length is in
    omega (arith, some, next_is)

pub emails-end : (text : List ℕ) (at : ℕ) (made all : List Node) → drop at text ≡ [] →
    made ++ emails_from text at ≡ all → made ≡ all
emails-end text at made all is done =
    sym (append-nil made)
    ∙ ap (λ (l : List ℕ). made ++ nodes (emails_in (take at text) l)) (sym is) ∙ done

-- A loop over nodes.
pub search-goes : (text : List ℕ) (hidden at : ℕ) (nd : Node) (rest following : List Node) (count place : ℕ)
    (made more all : List Node) → rest ≡ nd ∷ following → more ≡ made ++ node_searched text hidden at nd →
    place ≡ at_after at nd → count ≡ hidden_after hidden nd → made ++ searched text hidden at rest ≡ all →
    more ++ searched text count place following ≡ all
search-goes text hidden at nd rest following count place made more all is more_is place_is count_is done =
    ap (λ (l : List Node). l ++ searched text count place following) more_is
    ∙ append_assoc made (node_searched text hidden at nd) (searched text count place following)
    ∙ ap (λ (k : ℕ). made ++ (node_searched text hidden at nd ++ searched text k place following)) count_is
    ∙ ap (λ (k : ℕ). made ++ (node_searched text hidden at nd ++ searched text (hidden_after hidden nd) k following))
    place_is
    ∙ ap (λ (l : List Node). made ++ searched text hidden at l) (sym is) ∙ done

-- Addresses in the text of a forest.

module _ (text : List ℕ) where
  -- a piece that is searched
  piece-searched : (name : Name) (more at : ℕ) →
      node_searched text 0 at (node.Piece name (suc more)) ≡
      nodes
      (cond (is_data name) (emails_in (take at text) (take (suc more) (drop at text))) (piece name more nothing))
  piece-searched n.Data more at =
      let within : at ≤ at + suc more = omega arith in
      ap (λ (l : List ℕ). nodes (emails_in l (drop at (take (at + suc more) text))))
      (take-take at (at + suc more) text within)
      ∙ ap (λ (l : List ℕ). nodes (emails_in (take at text) l)) (drop-take at (suc more) text)
  piece-searched name more at = refl

  -- what is in a part that is not searched stays
  hidden-searched : (forest : Forest) (hidden at : ℕ) (list : List Node) →
      searched text (suc hidden) at (nodes forest ++ list) ≡
      nodes forest ++ searched text (suc hidden) (at + size forest) list
  hidden-searched nothing hidden at list =
      let same : at ≡ at + 0 = omega arith in
      ap (λ (k : ℕ). searched text (suc hidden) k list) same
  hidden-searched (piece name more following) hidden at list =
      let place : at + suc more + size following ≡ at + size (piece name more following) =
      omega (arith, size-piece name more following) in
      ap (λ (l : List Node). node.Piece name (suc more) ∷ l)
      (hidden-searched following hidden (at + suc more) list
      ∙ ap (λ (k : ℕ). nodes following ++ searched text (suc hidden) k list) place)
  hidden-searched (part name inside following) hidden at list =
      let place : at + size inside + size following ≡ at + size (part name inside following) =
      omega (arith, size-part name inside following) in
      ap (λ (l : List Node). node.Begin name ∷ l)
      (ap (searched text (suc (suc hidden)) at)
      (append_assoc (nodes inside) (node.End ∷ nodes following) list)
      ∙ hidden-searched inside (suc hidden) at (node.End ∷ (nodes following ++ list))
      ∙ ap (λ (l : List Node). nodes inside ++ node.End ∷ l)
      (hidden-searched following hidden (at + size inside) list
      ∙ ap (λ (k : ℕ). nodes following ++ searched text (suc hidden) k list) place)
      ∙ sym
      (append_assoc (nodes inside) (node.End ∷ nodes following)
      (searched text (suc hidden) (at + size (part name inside following)) list)))

  open-searched : (forest : Forest) (at : ℕ) (list : List Node) →
      searched text 0 at (nodes forest ++ list) ≡
      nodes (with_emails (take at text) (drop at text) forest) ++ searched text 0 (at + size forest) list
  open-searched nothing at list =
      let same : at ≡ at + 0 = omega arith in
      ap (λ (k : ℕ). searched text 0 k list) same
  open-searched (piece name more following) at list =
      let place : at + suc more + size following ≡ at + size (piece name more following) =
      omega (arith, size-piece name more following) in
      let own : Forest =
      cond (is_data name) (emails_in (take at text) (take (suc more) (drop at text))) (piece name more nothing) in
      let tail : Forest = with_emails (take (at + suc more) text) (drop (at + suc more) text) following in
      let rest : Forest =
      with_emails (take at text ++ take (suc more) (drop at text)) (drop (suc more) (drop at text)) following in
      let same : tail ≡ rest =
      ap (λ (l : List ℕ). with_emails l (drop (at + suc more) text) following) (sym (take-further at (suc more) text))
      ∙ ap (λ (l : List ℕ). with_emails (take at text ++ take (suc more) (drop at text)) l following)
      (sym (drop-drop (suc more) at text)) in
      ap (λ (l : List Node). l ++ searched text 0 (at + suc more) (nodes following ++ list))
      (piece-searched name more at)
      ∙ ap (λ (l : List Node). nodes own ++ l)
      (open-searched following (at + suc more) list
      ∙ ap (λ (k : ℕ). nodes tail ++ searched text 0 k list) place
      ∙ ap (λ (f : Forest). nodes f ++ searched text 0 (at + size (piece name more following)) list) same)
      ∙ sym (append_assoc (nodes own) (nodes rest) (searched text 0 (at + size (piece name more following)) list))
      ∙ ap (λ (l : List Node). l ++ searched text 0 (at + size (piece name more following)) list)
      (sym (nodes-beside own rest))
  open-searched (part name inside following) at list =
      let place : at + size inside + size following ≡ at + size (part name inside following) =
      omega (arith, size-part name inside following) in
      let same : tail ≡ rest =
      ap (λ (l : List ℕ). with_emails l (drop (at + size inside) text) following)
      (sym (take-further at (size inside) text))
      ∙ ap (λ (l : List ℕ). with_emails (take at text ++ take (size inside) (drop at text)) l following)
      (sym (drop-drop (size inside) at text)) in
      ap (λ (l : List Node). node.Begin name ∷ l)
      (ap (searched text (cond (holds_text name) 0 1) at)
      (append_assoc (nodes inside) (node.End ∷ nodes following) list)
      ∙ within (holds_text name) (open-searched inside at (node.End ∷ (nodes following ++ list)))
      ∙ ap (λ (l : List Node). nodes (own (holds_text name)) ++ node.End ∷ l)
      (open-searched following (at + size inside) list
      ∙ ap (λ (k : ℕ). nodes tail ++ searched text 0 k list) place
      ∙ ap (λ (f : Forest). nodes f ++ searched text 0 (at + size (part name inside following)) list) same)
      ∙ sym
      (append_assoc (nodes (own (holds_text name))) (node.End ∷ nodes rest)
      (searched text 0 (at + size (part name inside following)) list)))
    where
      tail : Forest
      tail = with_emails (take (at + size inside) text) (drop (at + size inside) text) following

      rest : Forest
      rest = with_emails (take at text ++ take (size inside) (drop at text)) (drop (size inside) (drop at text)) following

      own : Bool → Forest
      own t = cond t (with_emails (take at text) (drop at text) inside) inside

      within : (t : Bool) →
          searched text 0 at (nodes inside ++ (node.End ∷ (nodes following ++ list))) ≡
          nodes (own true) ++ (node.End ∷ searched text 0 (at + size inside) (nodes following ++ list)) →
          searched text (cond t 0 1) at (nodes inside ++ (node.End ∷ (nodes following ++ list))) ≡
          nodes (own t) ++ (node.End ∷ searched text 0 (at + size inside) (nodes following ++ list))
      within true found = found
      within false found = hidden-searched inside 0 at (node.End ∷ (nodes following ++ list))

  -- all of a forest
  pub searched-nodes : (forest : Forest) (at : ℕ) →
      searched text 0 at (nodes forest) ≡ nodes (with_emails (take at text) (drop at text) forest)
  searched-nodes forest at =
      ap (searched text 0 at) (sym (append-nil (nodes forest))) ∙ open-searched forest at []
      ∙ append-nil (nodes (with_emails (take at text) (drop at text) forest))
