-- The brackets that are open, from the innermost on, and what a step reads.
use Rattle.std.proofs.Common.{◌≡◌, ℕ, ◌+◌, ◌<◌, Bool, true, false, List, [], ◌∷◌, ◌++◌, length, take, drop, Option}
use Rattle.std.proofs.Common.{refl, ap, sym, ◌∙◌, arith}
use Rattle.std.specs.Prelude.{◌==◌, not, reverse}
use Rattle.std.proofs.lemmas.Bool.Decides.{nat_tests}
use Rattle.std.proofs.lemmas.List.{length-reverse, reverse-append}
use Rattle.md_engine.specs.declared.event.Name.TheVariants as n
use Rattle.md_inline_events.specs.Forest.{Forest, size}
use Rattle.md_inlines.specs.declared.InlineOptions.{InlineOptions}
use Rattle.md_inlines.specs.declared.Run.{Run}
use Rattle.md_inlines.specs.Brackets.{Front, closes, front, is_atom, is_run, is_text, opens}
use Rattle.reference_inlines.specs.Nodes.{len_of_all, nodes}
use Rattle.reference_inlines.specs.Pairs.{MadePair}
use Rattle.reference_inlines.specs.Reading.{Goes, State, added, closed_by, front_at, is_open, left, made_taken, opened}
use Rattle.reference_inlines.specs.Reading.{pair_at}
use Rattle.reference_inlines.specs.declared.brackets.Open.{Open}
use Rattle.reference_inlines.specs.declared.node.Node.{Node}
use Rattle.reference_inlines.specs.declared.node.Node.TheVariants as node
use Rattle.reference_inlines.proofs.ReadingLemmas.{atom-further, atom-step, close-step, open-step, opens-further}
use Rattle.reference_inlines.proofs.ReadingLemmas.{run-further, run-step, size-nodes, text-step}

pub reverse_push : (list : List Open) (o : Open) → reverse (list ++ o ∷ []) ≡ o ∷ reverse list
reverse_push list o = reverse-append list (o ∷ [])

-- whether a bracket is open
is_open-length : (list : List Open) → is_open list ≡ not (length list == 0)
is_open-length [] = refl
is_open-length (o ∷ list) =
    let some : (length (o ∷ list) == 0) ≡ false = grind (arith, nat_tests) in
    ap not (sym some)

pub open_is : (list : List Open) (len : ℕ) (none : Bool) → none ≡ (len == 0) → len ≡ length list →
    not none ≡ is_open (reverse list)
open_is list len none h long =
    ap not h ∙ ap (λ (k : ℕ). not (k == 0)) (long ∙ sym (length-reverse list)) ∙ sym (is_open-length (reverse list))

-- What a step reads, as `step` finds it: by the front of what is left of a text.
module _ (options : InlineOptions) (is_definition is_footnote : List ℕ → Bool) (text : List ℕ) (s next : State)
    (inside : Bool) (before rest : List ℕ) (b : ℕ) (following : List ℕ) (opens_is : inside ≡ is_open s.stack)
    (before_is : before ≡ take s.at text) (rest_is : rest ≡ drop s.at text) (is : drop s.at text ≡ b ∷ following) where
  front-here : (f : Front) → f ≡ front_at options inside before b rest →
      front options is_definition is_footnote (is_open s.stack) (take s.at text) b following ≡ f
  front-here f h =
      ap (λ (l : List ℕ). front_at options (is_open s.stack) (take s.at text) b l) (sym (rest_is ∙ is))
      ∙ ap (λ (l : List ℕ). front_at options (is_open s.stack) l b rest) (sym before_is)
      ∙ ap (λ (t : Bool). front_at options t before b rest) (sym opens_is) ∙ sym h

  pub atom-goes : (found : Forest) (made : List Node) (len : ℕ) →
      is_atom found ≡ front_at options inside before b rest →
      made ≡ nodes found → len ≡ len_of_all made → next ≡ added s made len →
      Goes options is_definition is_footnote text s next
  atom-goes found made len h made_is len_is next_is =
      let here = front-here (is_atom found) h in
      let long : len ≡ size found = len_is ∙ ap len_of_all made_is ∙ sym (size-nodes found) in
      let same : next ≡ added s (nodes found) (size found) =
      next_is ∙ ap (λ (l : List Node). added s l len) made_is ∙ ap (added s (nodes found)) long in
      let some : 0 < size found = atom-further options is_definition is_footnote text (is_open s.stack)
      (take s.at text) b following found here in
      let place : next.at ≡ s.at + size found = ap (λ (t : State). t.at) same in
      record {
        further = omega (arith, some, place);
        same =
            ap (left options is_definition is_footnote text) same
            ∙ atom-step options is_definition is_footnote text s b following found is here;
      }

  pub run-goes : (r : Run) → is_run r ≡ front_at options inside before b rest →
      next ≡ added s (node.Run r ∷ []) r.left → Goes options is_definition is_footnote text s next
  run-goes r h next_is =
      let here = front-here (is_run r) h in
      let some : 0 < r.left = run-further options is_definition is_footnote text (is_open s.stack) (take s.at text) b
      following r here in
      let place : next.at ≡ s.at + r.left = ap (λ (t : State). t.at) next_is in
      record {
        further = omega (arith, some, place);
        same =
            ap (left options is_definition is_footnote text) next_is
            ∙ run-step options is_definition is_footnote text s b following r is here;
      }

  pub text-goes : is_text ≡ front_at options inside before b rest →
      next ≡ added s (node.Piece n.Data 1 ∷ []) 1 → Goes options is_definition is_footnote text s next
  text-goes h next_is =
      let place : next.at ≡ s.at + 1 = ap (λ (t : State). t.at) next_is in
      record {
        further = omega (arith, place);
        same =
            ap (left options is_definition is_footnote text) next_is
            ∙ text-step options is_definition is_footnote text s b following is (front-here is_text h);
      }

  pub open-goes : (len : ℕ) → opens len ≡ front_at options inside before b rest → next ≡ opened s len →
      Goes options is_definition is_footnote text s next
  open-goes len h next_is =
      let here = front-here (opens len) h in
      let some : 0 < len = opens-further options is_definition is_footnote text (is_open s.stack) (take s.at text) b
      following len here in
      let place : next.at ≡ s.at + len = ap (λ (t : State). t.at) next_is in
      record {
        further = omega (arith, some, place);
        same =
            ap (left options is_definition is_footnote text) next_is
            ∙ open-step options is_definition is_footnote text s b following len is here;
      }

  pub close-goes : (o : Open) (stack : List Open) (made : Option MadePair) →
      closes ≡ front_at options inside before b rest → s.stack ≡ o ∷ stack →
      made ≡ pair_at options is_definition is_footnote text o s.list s.links s.at (drop 1 (drop s.at text)) →
      next ≡ closed_by o stack s.list s.links s.at made → Goes options is_definition is_footnote text s next
  close-goes o stack made h open_is made_is next_is =
      let held : is_open s.stack ≡ true = ap is_open open_is in
      let here : front options is_definition is_footnote true (take s.at text) b following ≡ closes =
      ap (λ (t : Bool). front options is_definition is_footnote t (take s.at text) b following) (sym held)
      ∙ front-here closes h in
      let place : next.at ≡ s.at + 1 + made_taken made = ap (λ (t : State). t.at) next_is in
      record {
        further = omega (arith, place);
        same =
            ap (left options is_definition is_footnote text) next_is
            ∙ ap
            (λ (m : Option MadePair). left options is_definition is_footnote text
            (closed_by o stack s.list s.links s.at m)) made_is
            ∙ close-step options is_definition is_footnote text s b following o stack open_is is here;
      }
