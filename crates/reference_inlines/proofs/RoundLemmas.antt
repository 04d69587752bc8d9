-- Emphasis among the nodes of items is what the definition makes of the items.
use Rattle.std.proofs.Common.{◌≡◌, ℕ, zero, suc, ◌+◌, ◌-◌, ◌<◌, Bool, true, false, cond, List, [], ◌∷◌, ◌++◌, length}
use Rattle.std.proofs.Common.{take, drop, Option, Some, None, refl, ap, sym, ◌∙◌, arith, append_assoc, append-nil}
use Rattle.std.specs.Prelude.{◌==◌, ◌%◌, nat_lt}
use Rattle.std.proofs.lemmas.List.{drop_at, length-append, take_at}
use Rattle.md_engine.specs.declared.event.Name.{Name}
use Rattle.md_engine.specs.declared.event.Name.TheVariants as n
use Rattle.md_meaning.specs.Ascii.{tilde}
use Rattle.md_inline_events.specs.Forest.{Forest, nothing, part, piece}
use Rattle.md_inlines.specs.declared.Run.{Run}
use Rattle.md_inlines.specs.Emphasis as e
use Rattle.md_inlines.specs.Emphasis.{Item, enclosed, first_pair, level, marked, may_pair, nearest, onto, read, run}
use Rattle.md_inlines.specs.Emphasis.{shorter}
use Rattle.reference_inlines.specs.Nodes.{item_nodes, items_nodes, nodes, texts}
use Rattle.reference_inlines.specs.Rounds.{delimiters, either_pair, emphasis_nodes, enclosed_nodes, last_opener}
use Rattle.reference_inlines.specs.Rounds.{marked_nodes, opened}
use Rattle.reference_inlines.specs.Rounds.{opener_first, opener_later, opens_for, pair_at, pair_from, rounds}
use Rattle.reference_inlines.specs.Rounds.{shorter_nodes, with_pair}
use Rattle.reference_inlines.specs.declared.emphasis.Opener.{Opener}
use Rattle.reference_inlines.specs.declared.emphasis.Pair.{Pair}
use Rattle.reference_inlines.specs.declared.node.Node.{Node}
use Rattle.reference_inlines.specs.declared.node.Node.TheVariants as node
use Rattle.reference_inlines.proofs.NodeLemmas.{items-append, nodes-level}

pub sum_of_rests : (a b : ℕ) → (a % 3 + b % 3) % 3 ≡ (a + b) % 3
sum_of_rests a b = omega arith

-- The last opener among nodes.

pub last_snoc : (single : Bool) (closer : Run) (list : List Node) (nd : Node) →
    last_opener single closer (list ++ nd ∷ []) ≡
    elim (opens_for single closer nd) as (λ (_ : Option Run). Option Opener) [
      | Some r ↦ Some (record { at = length list; run = r })
      | None ↦ last_opener single closer list
    ]
last_snoc single closer [] nd = go (opens_for single closer nd)
  where
    go : (o : Option Run) → opener_first o ≡ elim o as (λ (_ : Option Run). Option Opener) [
      | Some r ↦ Some (record { at = 0; run = r })
      | None ↦ None
    ]
    go (Some r) = refl
    go None = refl
last_snoc single closer (first ∷ list) nd =
    ap (λ found. opener_later found (opener_first (opens_for single closer first))) (last_snoc single closer list nd)
    ∙ go (opens_for single closer nd)
  where
    go : (o : Option Run) →
        opener_later
        (elim o as (λ (_ : Option Run). Option Opener) [
          | Some r ↦ Some (record { at = length list; run = r })
          | None ↦ last_opener single closer list
        ])
        (opener_first (opens_for single closer first)) ≡
        elim o as (λ (_ : Option Run). Option Opener) [
          | Some r ↦ Some (record { at = length (first ∷ list); run = r })
          | None ↦ last_opener single closer (first ∷ list)
        ]
    go (Some r) = refl
    go None = refl

pub last_here : (single : Bool) (closer : Run) (list : List Node) (nd : Node) (r : Run) →
    opens_for single closer nd ≡ Some r →
    last_opener single closer (list ++ nd ∷ []) ≡ Some (record { at = length list; run = r })
last_here single closer list nd r h = last_snoc single closer list nd ∙ rw h refl

pub last_before : (single : Bool) (closer : Run) (list : List Node) (nd : Node) →
    opens_for single closer nd ≡ None →
    last_opener single closer (list ++ nd ∷ []) ≡ last_opener single closer list
last_before single closer list nd h = last_snoc single closer list nd ∙ rw h refl

pub last-bound : (single : Bool) (closer : Run) (list : List Node) (found : Opener) →
    last_opener single closer list ≡ Some found → found.at < length list
last-bound single closer [] found h = cc
last-bound single closer (nd ∷ list) found h =
    go (last_opener single closer list) refl (opens_for single closer nd) h (last-bound single closer list)
  where
    go : (later : Option Opener) → last_opener single closer list ≡ later → (o : Option Run) →
        opener_later later (opener_first o) ≡ Some found →
        ((other : Opener) → last_opener single closer list ≡ Some other → other.at < length list) →
        found.at < suc (length list)
    go (Some other) is o h rest =
        let bound : other.at < length list = rest other is in
        let same : record { at = suc other.at; run = other.run } ≡ found = cc in
        let place : suc other.at ≡ found.at = ap (λ (x : Opener). x.at) same in
        omega (arith, bound, place)
    go None is (Some r) h rest =
        let same : record { at = 0; run = r } ≡ found = cc in
        let place : 0 ≡ found.at = ap (λ (x : Opener). x.at) same in
        omega (arith, place)
    go None is None h rest = cc

pair-at-bound : (single : Bool) (before : List Node) (nd : Node) (pair : Pair) →
    pair_at single before nd ≡ Some pair → (pair.opener_at < pair.closer_at) × (pair.closer_at ≡ length before)
pair-at-bound single before (node.Run closer) pair h = go (last_opener single closer before) refl h
  where
    go : (o : Option Opener) → last_opener single closer before ≡ o →
        opened (length before) closer o ≡ Some pair →
        (pair.opener_at < pair.closer_at) × (pair.closer_at ≡ length before)
    go (Some found) is h =
        let bound : found.at < length before = last-bound single closer before found is in
        let same : record {
          opener_at = found.at;
          opener = found.run;
          closer_at = length before;
          closer = closer;
        } ≡
        pair = cc in
        let first : found.at ≡ pair.opener_at = ap (λ (x : Pair). x.opener_at) same in
        let second : length before ≡ pair.closer_at = ap (λ (x : Pair). x.closer_at) same in
        (omega (arith, bound, first, second), sym second)
    go None is h = cc
pair-at-bound single before (node.Begin name) pair h = cc
pair-at-bound single before node.End pair h = cc
pair-at-bound single before (node.Piece name len) pair h = cc

pub pair-bounds : (single : Bool) (before list : List Node) (pair : Pair) → pair_from single before list ≡ Some pair →
    (pair.opener_at < pair.closer_at) × (pair.closer_at < length before + length list)
pair-bounds single before [] pair h = cc
pair-bounds single before (nd ∷ list) pair h =
    go (pair_at single before nd) refl h (pair-bounds single (before ++ nd ∷ []) list pair)
  where
    go : (o : Option Pair) → pair_at single before nd ≡ o →
        either_pair o (pair_from single (before ++ nd ∷ []) list) ≡ Some pair →
        (pair_from single (before ++ nd ∷ []) list ≡ Some pair →
        (pair.opener_at < pair.closer_at) × (pair.closer_at < length (before ++ nd ∷ []) + length list)) →
        (pair.opener_at < pair.closer_at) × (pair.closer_at < length before + suc (length list))
    go (Some found) is h rest =
        let fact = pair-at-bound single before nd pair (is ∙ h) in
        (fact.0, omega (arith, fact.1))
    go None is h rest =
        let fact = rest h in
        (fact.0, omega (arith, fact.1, length-append before (nd ∷ [])))

-- A loop over nodes of which none so far closes a pair.
pub pair-here : (single : Bool) (before list : List Node) (nd : Node) (pair : Pair) →
    pair_at single before nd ≡ Some pair → pair_from single before (nd ∷ list) ≡ Some pair
pair-here single before list nd pair h = rw h refl

pub pair-later : (single : Bool) (before list : List Node) (nd : Node) → pair_at single before nd ≡ None →
    pair_from single before (nd ∷ list) ≡ pair_from single (before ++ nd ∷ []) list
pair-later single before list nd h = rw h refl

-- Items that were passed, of which the last is first.

abbrev back_nodes : List Item → List Node
back_nodes [] = []
back_nodes (item ∷ before) = back_nodes before ++ item_nodes item

onto-nodes : (before items : List Item) → items_nodes (onto before items) ≡ back_nodes before ++ items_nodes items
onto-nodes [] items = refl
onto-nodes (item ∷ before) items =
    onto-nodes before (item ∷ items) ∙ sym (append_assoc (back_nodes before) (item_nodes item) (items_nodes items))

-- among what is read already is no opener, and no pair ends there
last-append : (single : Bool) (closer : Run) (xs ys : List Node) → last_opener single closer ys ≡ None →
    last_opener single closer (xs ++ ys) ≡ last_opener single closer xs
last-append single closer [] ys h = h
last-append single closer (x ∷ xs) ys h =
    ap (λ found. opener_later found (opener_first (opens_for single closer x))) (last-append single closer xs ys h)

last-read : (single : Bool) (closer : Run) (forest : Forest) (list : List Node) →
    last_opener single closer list ≡ None → last_opener single closer (nodes forest ++ list) ≡ None
last-read single closer nothing list h = h
last-read single closer (piece name more following) list h =
    ap (λ found. opener_later found None) (last-read single closer following list h)
last-read single closer (part name inside following) list h =
    ap (λ found. opener_later found None)
    (ap (last_opener single closer) (append_assoc (nodes inside) (node.End ∷ nodes following) list)
    ∙ last-read single closer inside (node.End ∷ (nodes following ++ list))
    (ap (λ found. opener_later found None) (last-read single closer following list h)))

last-forest : (single : Bool) (closer : Run) (before : List Node) (forest : Forest) →
    last_opener single closer (before ++ nodes forest) ≡ last_opener single closer before
last-forest single closer before forest =
    last-append single closer before (nodes forest)
    (ap (last_opener single closer) (sym (append-nil (nodes forest))) ∙ last-read single closer forest [] refl)

pair-forest : (single : Bool) (before : List Node) (forest : Forest) (list : List Node) →
    pair_from single before (nodes forest ++ list) ≡ pair_from single (before ++ nodes forest) list
pair-forest single before nothing list = ap (λ l. pair_from single l list) (sym (append-nil before))
pair-forest single before (piece name more following) list =
    pair-forest single (before ++ node.Piece name (suc more) ∷ []) following list
    ∙ ap (λ l. pair_from single l list) (append_assoc before (node.Piece name (suc more) ∷ []) (nodes following))
pair-forest single before (part name inside following) list =
    ap (pair_from single (before ++ node.Begin name ∷ []))
    (append_assoc (nodes inside) (node.End ∷ nodes following) list)
    ∙ pair-forest single (before ++ node.Begin name ∷ []) inside (node.End ∷ (nodes following ++ list))
    ∙ pair-forest single (((before ++ node.Begin name ∷ []) ++ nodes inside) ++ node.End ∷ []) following list
    ∙ ap (λ l. pair_from single l list)
    (append_assoc ((before ++ node.Begin name ∷ []) ++ nodes inside) (node.End ∷ []) (nodes following)
    ∙ append_assoc (before ++ node.Begin name ∷ []) (nodes inside) (node.End ∷ nodes following)
    ∙ append_assoc before (node.Begin name ∷ []) (nodes inside ++ node.End ∷ nodes following))

-- The nearest run among items is the last opener among their nodes.

record IsNearest (single : Bool) (closer : Run) (before between after : List Item) (pair : e.Pair) : Type 0 where
  found : last_opener single closer (back_nodes before) ≡
      Some (record { at = length (back_nodes pair.before); run = pair.opener })
  split : back_nodes before ++ items_nodes between ≡
      back_nodes pair.before ++ node.Run pair.opener ∷ items_nodes pair.between
  closes : pair.closer ≡ closer
  left : pair.after ≡ after

abbrev Nearest : Bool → Run → List Item → List Item → List Item → Option e.Pair → Type 0
Nearest single closer before between after None = last_opener single closer (back_nodes before) ≡ None
Nearest single closer before between after (Some pair) = IsNearest single closer before between after pair

nearest-is : (single : Bool) (closer : Run) (before between after : List Item) →
    Nearest single closer before between after (nearest single closer before between after)
nearest-is single closer [] between after = refl
nearest-is single closer (read forest ∷ before) between after =
    go (nearest single closer before (read forest ∷ between) after)
    (nearest-is single closer before (read forest ∷ between) after)
  where
    go : (o : Option e.Pair) → Nearest single closer before (read forest ∷ between) after o →
        Nearest single closer (read forest ∷ before) between after o
    go None h = last-forest single closer (back_nodes before) forest ∙ h
    go (Some pair) h = record {
      found = last-forest single closer (back_nodes before) forest ∙ h.found;
      split = append_assoc (back_nodes before) (nodes forest) (items_nodes between) ∙ h.split;
      closes = h.closes;
      left = h.left;
    }
nearest-is single closer (run opener ∷ before) between after =
    choose (may_pair single opener closer) refl
    (go (nearest single closer before (run opener ∷ between) after)
    (nearest-is single closer before (run opener ∷ between) after))
  where
    opens : (t : Bool) → may_pair single opener closer ≡ t →
        opens_for single closer (node.Run opener) ≡ cond t (Some opener) None
    opens t p = rw p refl

    go : (o : Option e.Pair) → Nearest single closer before (run opener ∷ between) after o →
        may_pair single opener closer ≡ false → Nearest single closer (run opener ∷ before) between after o
    go None h p = last_before single closer (back_nodes before) (node.Run opener) (opens false p) ∙ h
    go (Some pair) h p = record {
      found = last_before single closer (back_nodes before) (node.Run opener) (opens false p) ∙ h.found;
      split = append_assoc (back_nodes before) (node.Run opener ∷ []) (items_nodes between) ∙ h.split;
      closes = h.closes;
      left = h.left;
    }

    choose : (t : Bool) → may_pair single opener closer ≡ t →
        (may_pair single opener closer ≡ false →
        Nearest single closer (run opener ∷ before) between after
        (nearest single closer before (run opener ∷ between) after)) →
        Nearest single closer (run opener ∷ before) between after
        (cond t
        (Some
        (record { before = before; opener = opener; between = between; closer = closer; after = after }))
        (nearest single closer before (run opener ∷ between) after))
    choose true p later = record {
      found = last_here single closer (back_nodes before) (node.Run opener) opener (opens true p);
      split = append_assoc (back_nodes before) (node.Run opener ∷ []) (items_nodes between);
      closes = refl;
      left = refl;
    }
    choose false p later = later p

-- The first pair among items is the first among their nodes.

-- a pair with this closer at this place
abbrev ending : e.Pair → ℕ → Run → Option Pair
ending pair end closer =
    Some
    (record {
      opener_at = length (back_nodes pair.before);
      opener = pair.opener;
      closer_at = end;
      closer = closer;
    })

abbrev place : e.Pair → Pair
place pair = record {
  opener_at = length (back_nodes pair.before);
  opener = pair.opener;
  closer_at = length (back_nodes pair.before) + suc (length (items_nodes pair.between));
  closer = pair.closer;
}

-- what a pair is in, as nodes
abbrev whole : e.Pair → List Node
whole pair =
    back_nodes pair.before
    ++ node.Run pair.opener ∷ (items_nodes pair.between ++ node.Run pair.closer ∷ items_nodes pair.after)

record IsFirst (single : Bool) (before items : List Item) (pair : e.Pair) : Type 0 where
  found : pair_from single (back_nodes before) (items_nodes items) ≡ Some (place pair)
  split : back_nodes before ++ items_nodes items ≡ whole pair

abbrev First : Bool → List Item → List Item → Option e.Pair → Type 0
First single before items None = pair_from single (back_nodes before) (items_nodes items) ≡ None
First single before items (Some pair) = IsFirst single before items pair

first-is : (single : Bool) (before items : List Item) → First single before items (first_pair single before items)
first-is single before [] = refl
first-is single before (read forest ∷ items) =
    go (first_pair single (read forest ∷ before) items) (first-is single (read forest ∷ before) items)
  where
    go : (o : Option e.Pair) → First single (read forest ∷ before) items o → First single before (read forest ∷ items) o
    go None h = pair-forest single (back_nodes before) forest (items_nodes items) ∙ h
    go (Some pair) h = record {
      found = pair-forest single (back_nodes before) forest (items_nodes items) ∙ h.found;
      split = sym (append_assoc (back_nodes before) (nodes forest) (items_nodes items)) ∙ h.split;
    }
first-is single before (run closer ∷ items) =
    choose (nearest single closer before [] items) (nearest-is single closer before [] items)
    (first-is single (run closer ∷ before) items)
  where
    at : ℕ
    at = length (back_nodes before)

    later : (o : Option e.Pair) → last_opener single closer (back_nodes before) ≡ None →
        First single (run closer ∷ before) items o → First single before (run closer ∷ items) o
    later None none h =
        pair-later single (back_nodes before) (items_nodes items) (node.Run closer)
        (ap (opened (length (back_nodes before)) closer) none)
        ∙ h
    later (Some pair) none h = record {
      found =
          pair-later single (back_nodes before) (items_nodes items) (node.Run closer)
          (ap (opened (length (back_nodes before)) closer) none)
          ∙ h.found;
      split = sym (append_assoc (back_nodes before) (node.Run closer ∷ []) (items_nodes items)) ∙ h.split;
    }

    here : (pair : e.Pair) → IsNearest single closer before [] items pair →
        IsFirst single before (run closer ∷ items) pair
    here pair h =
        let front : back_nodes before ≡ back_nodes pair.before ++ node.Run pair.opener ∷ items_nodes pair.between =
        sym (append-nil (back_nodes before)) ∙ h.split in
        let long : length (back_nodes before) ≡
        length (back_nodes pair.before) + suc (length (items_nodes pair.between)) =
        ap length front
        ∙ length-append (back_nodes pair.before) (node.Run pair.opener ∷ items_nodes pair.between) in
        record {
          found =
              pair-here single (back_nodes before) (items_nodes items) (node.Run closer) (place pair)
              (ap (opened (length (back_nodes before)) closer) h.found
              ∙ ap (λ (k : ℕ). ending pair k closer) long
              ∙ ap
              (ending pair (length (back_nodes pair.before) + suc (length (items_nodes pair.between))))
              (sym h.closes));
          split =
              ap (λ l. l ++ node.Run closer ∷ items_nodes items) front
              ∙ append_assoc (back_nodes pair.before) (node.Run pair.opener ∷ items_nodes pair.between)
              (node.Run closer ∷ items_nodes items)
              ∙ ap
              (λ (r : Run). back_nodes pair.before
              ++ node.Run pair.opener ∷ (items_nodes pair.between ++ node.Run r ∷ items_nodes items))
              (sym h.closes)
              ∙ ap
              (λ (l : List Item). back_nodes pair.before
              ++ node.Run pair.opener ∷ (items_nodes pair.between ++ node.Run pair.closer ∷ items_nodes l))
              (sym h.left);
        }

    choose : (o : Option e.Pair) → Nearest single closer before [] items o →
        First single (run closer ∷ before) items (first_pair single (run closer ∷ before) items) →
        First single before (run closer ∷ items) (e.or_pair o (first_pair single (run closer ∷ before) items))
    choose (Some pair) h rest = here pair h
    choose None h rest = later (first_pair single (run closer ∷ before) items) h rest

-- What a pair makes of its items, as nodes.

shorter-is : (count : ℕ) (r : Run) → items_nodes (shorter count r) ≡ shorter_nodes count r
shorter-is count r = go (nat_lt count r.left)
  where
    go : (t : Bool) →
        items_nodes
        (cond t
        (run
        (record { mark = r.mark; size = r.size; left = r.left - count; opens = r.opens; closes = r.closes }) ∷ [])
        []) ≡
        cond t
        (node.Run
        (record { mark = r.mark; size = r.size; left = r.left - count; opens = r.opens; closes = r.closes }) ∷ [])
        []
    go true = refl
    go false = refl

enclosed-is : (whole sequence text : Name) (count : ℕ) (inside : Forest) (list : List Node) →
    nodes inside ≡ texts list →
    nodes (enclosed whole sequence text count inside) ≡ enclosed_nodes whole sequence text count list
enclosed-is whole sequence text zero inside list h =
    ap (λ l. node.Begin whole ∷ node.Begin text ∷ l)
    (append_assoc (nodes inside) (node.End ∷ []) (node.End ∷ []) ∙ ap (λ l. l ++ node.End ∷ node.End ∷ []) h)
enclosed-is whole sequence text (suc more) inside list h =
    ap (λ l. node.Begin whole ∷ node.Piece sequence (suc more) ∷ node.Begin text ∷ l)
    (append_assoc (nodes inside) (node.End ∷ node.Piece sequence (suc more) ∷ []) (node.End ∷ [])
    ∙ ap (λ l. l ++ node.End ∷ node.Piece sequence (suc more) ∷ node.End ∷ []) h)

marked-is : (mark count : ℕ) (inside : Forest) (list : List Node) → nodes inside ≡ texts list →
    nodes (marked mark count inside) ≡ marked_nodes mark count list
marked-is mark count inside list h = go (mark == tilde) (count == 2)
  where
    go : (x y : Bool) →
        nodes
        (cond x (enclosed n.GfmStrikethrough n.GfmStrikethroughSequence n.GfmStrikethroughText count inside)
        (cond y (enclosed n.Strong n.StrongSequence n.StrongText count inside)
        (enclosed n.Emphasis n.EmphasisSequence n.EmphasisText count inside))) ≡
        cond x (enclosed_nodes n.GfmStrikethrough n.GfmStrikethroughSequence n.GfmStrikethroughText count list)
        (cond y (enclosed_nodes n.Strong n.StrongSequence n.StrongText count list)
        (enclosed_nodes n.Emphasis n.EmphasisSequence n.EmphasisText count list))
    go true y =
        enclosed-is n.GfmStrikethrough n.GfmStrikethroughSequence n.GfmStrikethroughText count inside list h
    go false true = enclosed-is n.Strong n.StrongSequence n.StrongText count inside list h
    go false false = enclosed-is n.Emphasis n.EmphasisSequence n.EmphasisText count inside list h

paired-items : (pair : e.Pair) → items_nodes (e.paired pair) ≡
    back_nodes pair.before
    ++ (shorter_nodes (e.used pair) pair.opener
    ++ (marked_nodes pair.closer.mark (e.used pair) (items_nodes pair.between)
    ++ (shorter_nodes (e.used pair) pair.closer ++ items_nodes pair.after)))
paired-items pair =
    let count : ℕ = e.used pair in
    let middle : Item = read (marked pair.closer.mark count (level pair.between)) in
    onto-nodes pair.before
    (shorter count pair.opener ++ (middle ∷ (shorter count pair.closer ++ pair.after)))
    ∙ ap (λ l. back_nodes pair.before ++ l)
    (items-append (shorter count pair.opener) (middle ∷ (shorter count pair.closer ++ pair.after))
    ∙ ap (λ l. l ++ items_nodes (middle ∷ (shorter count pair.closer ++ pair.after))) (shorter-is count pair.opener)
    ∙ ap
    (λ l. shorter_nodes count pair.opener ++ (l ++ items_nodes (shorter count pair.closer ++ pair.after)))
    (marked-is pair.closer.mark count (level pair.between) (items_nodes pair.between) (nodes-level pair.between))
    ∙ ap
    (λ l. shorter_nodes count pair.opener
    ++ (marked_nodes pair.closer.mark count (items_nodes pair.between) ++ l))
    (items-append (shorter count pair.closer) pair.after
    ∙ ap (λ l. l ++ items_nodes pair.after) (shorter-is count pair.closer)))

paired-whole : (pair : e.Pair) → with_pair (whole pair) (place pair) ≡
    back_nodes pair.before
    ++ (shorter_nodes (e.used pair) pair.opener
    ++ (marked_nodes pair.closer.mark (e.used pair) (items_nodes pair.between)
    ++ (shorter_nodes (e.used pair) pair.closer ++ items_nodes pair.after)))
paired-whole pair =
    let before : List Node = back_nodes pair.before in
    let front : List Node = before ++ node.Run pair.opener ∷ items_nodes pair.between in
    let after : List Node = node.Run pair.closer ∷ items_nodes pair.after in
    let end : ℕ = length before + suc (length (items_nodes pair.between)) in
    let long : length front ≡ end = length-append before (node.Run pair.opener ∷ items_nodes pair.between) in
    let same : whole pair ≡ front ++ after =
    sym (append_assoc before (node.Run pair.opener ∷ items_nodes pair.between) after) in
    let first : take (length before) (whole pair) ≡ before =
    take_at before (node.Run pair.opener ∷ (items_nodes pair.between ++ after)) (length before) refl in
    let cut : take end (whole pair) ≡ front = ap (take end) same ∙ take_at front after end long in
    let rest : drop end (whole pair) ≡ after = ap (drop end) same ∙ drop_at front after end long in
    let inner : drop (length before) front ≡ node.Run pair.opener ∷ items_nodes pair.between =
    drop_at before (node.Run pair.opener ∷ items_nodes pair.between) (length before) refl in
    let between : drop 1 (drop (length before) (take end (whole pair))) ≡ items_nodes pair.between =
    ap (λ l. drop 1 (drop (length before) l)) cut ∙ ap (drop 1) inner in
    ap
    (λ l. l
    ++ (shorter_nodes (e.used pair) pair.opener
    ++ (marked_nodes pair.closer.mark (e.used pair) (drop 1 (drop (length before) (take end (whole pair))))
    ++ (shorter_nodes (e.used pair) pair.closer ++ drop 1 (drop end (whole pair)))))) first
    ∙ ap
    (λ l. before
    ++ (shorter_nodes (e.used pair) pair.opener
    ++ (marked_nodes pair.closer.mark (e.used pair) l
    ++ (shorter_nodes (e.used pair) pair.closer ++ drop 1 (drop end (whole pair)))))) between
    ∙ ap
    (λ l. before
    ++ (shorter_nodes (e.used pair) pair.opener
    ++ (marked_nodes pair.closer.mark (e.used pair) (items_nodes pair.between)
    ++ (shorter_nodes (e.used pair) pair.closer ++ drop 1 l)))) rest

rounds-are : (single : Bool) (more : ℕ) (items : List Item) →
    nodes (e.emphasis_at_most single more items) ≡ rounds single more (items_nodes items)
rounds-are single zero items = nodes-level items
rounds-are single (suc more) items = go (first_pair single [] items) (first-is single [] items) (rounds-are single more)
  where
    go : (o : Option e.Pair) → First single [] items o →
        ((next : List Item) → nodes (e.emphasis_at_most single more next) ≡ rounds single more (items_nodes next)) →
        nodes
        (elim o as (λ (_ : Option e.Pair). Forest) [
          | None ↦ level items
          | Some pair ↦ e.emphasis_at_most single more (e.paired pair)
        ]) ≡
        rounds single (suc more) (items_nodes items)
    go None h rest = nodes-level items ∙ sym (rw (h, rounds) refl)
    go (Some pair) h rest =
        let made : rounds single (suc more) (items_nodes items) ≡
        rounds single more (with_pair (items_nodes items) (place pair)) = rw (h.found, rounds) refl in
        rest (e.paired pair)
        ∙ ap (rounds single more)
        (paired-items pair ∙ sym (paired-whole pair) ∙ ap (λ l. with_pair l (place pair)) (sym h.split))
        ∙ sym made

delimiters-forest : (forest : Forest) (list : List Node) → delimiters (nodes forest ++ list) ≡ delimiters list
delimiters-forest nothing list = refl
delimiters-forest (piece name more following) list = omega (arith, delimiters-forest following list)
delimiters-forest (part name inside following) list =
    let inner : delimiters (nodes inside ++ (node.End ∷ (nodes following ++ list))) ≡
    0 + delimiters (nodes following ++ list) = delimiters-forest inside (node.End ∷ (nodes following ++ list)) in
    let same : delimiters ((nodes inside ++ node.End ∷ nodes following) ++ list) ≡
    delimiters (nodes inside ++ (node.End ∷ (nodes following ++ list))) =
    ap delimiters (append_assoc (nodes inside) (node.End ∷ nodes following) list) in
    omega (arith, inner, same, delimiters-forest following list)

pub delimiters-are : (items : List Item) → e.delimiters items ≡ delimiters (items_nodes items)
delimiters-are [] = refl
delimiters-are (read forest ∷ items) =
    delimiters-are items ∙ sym (delimiters-forest forest (items_nodes items))
delimiters-are (run r ∷ items) = ap (λ k. r.left + k) (delimiters-are items)

-- Emphasis is that of the definition.
pub emphasis-nodes : (single : Bool) (items : List Item) →
    nodes (e.emphasis single items) ≡ emphasis_nodes single (items_nodes items)
emphasis-nodes single items =
    rounds-are single (e.delimiters items) items
    ∙ ap (λ k. rounds single k (items_nodes items)) (delimiters-are items)

-- A loop over rounds.
pub rounds-none : (single : Bool) (left : ℕ) (list : List Node) → pair_from single [] list ≡ None →
    rounds single left list ≡ texts list
rounds-none single zero list h = refl
rounds-none single (suc more) list h = rw (h, rounds) refl

pub rounds-some : (single : Bool) (left : ℕ) (list : List Node) (pair : Pair) → 0 < left →
    pair_from single [] list ≡ Some pair →
    rounds single (left - 1) (with_pair list pair) ≡ rounds single left list
rounds-some single zero list pair some h = absurd (omega (arith, some))
rounds-some single (suc more) list pair some h =
    let less : suc more - 1 ≡ more = omega arith in
    let made : rounds single (suc more) list ≡ rounds single more (with_pair list pair) = rw (h, rounds) refl in
    ap (λ k. rounds single k (with_pair list pair)) less ∙ sym made
