-- A step of a reader is one of the text's state.
use Rattle.std.proofs.Common.{◌≡◌, ℕ, suc, ◌+◌, ◌<◌, ◌≤◌, Bool, false, List, [], ◌∷◌, ◌++◌}
use Rattle.std.proofs.Common.{length, take, drop, map, Option, refl, ap, sym, ◌∙◌, subst, arith}
use Rattle.std.specs.Prelude.{◌==◌, ◌||◌, not, reverse, string_bytes}
use Rattle.std.proofs.lemmas.Bool.Decides.{nat_tests}
use Rattle.std.proofs.lemmas.List.{length-drop, length-reverse, length-take-le, reverse-append}
use Rattle.md_inline_events.specs.Forest.{Forest, size}
use Rattle.md_inlines.specs.declared.Run.{Run}
use Rattle.md_inlines.specs.Brackets.{Front, closes, front, is_atom, is_run, is_text, opens, text_item}
use Rattle.md_inlines.specs.Brackets as inlines
use Rattle.md_inlines.specs.Content.{has_form}
use Rattle.md_inlines.specs.Emphasis.{Item, read, run}
use Rattle.markdown_inlines.specs.declared.atom.Atom.{Atom}
use Rattle.markdown_inlines.specs.declared.attention.PlacedRun.{PlacedRun}
use Rattle.markdown_inlines.specs.declared.brackets.Bracket.{Bracket}
use Rattle.markdown_inlines.specs.declared.brackets.Reading.{Reading}
use Rattle.markdown_inlines.specs.declared.brackets.Source.{Source}
use Rattle.markdown_inlines.specs.declared.span.Span.{Span}
use Rattle.markdown_inlines.specs.Closed.{IsAtomAdded, IsOpened, IsRunAdded, IsTextAdded, pair_at}
use Rattle.markdown_inlines.specs.Filled.{placed, room}
use Rattle.markdown_inlines.specs.Found.{atom_forest, atom_spans}
use Rattle.markdown_inlines.specs.Opened.{Opened, bracket_of, bracket_room, reached}
use Rattle.markdown_inlines.specs.Reading.{Frame, added, closed_by}
use Rattle.markdown_inlines.specs.Reading.{front_at, is_open, opened, pair_link}
use Rattle.markdown_inlines.specs.Reading as reading
use Rattle.markdown_inlines.specs.Reads.{ClosedAs, Closing, Goes, Lens, Reads, left_of}
use Rattle.markdown_inlines.specs.Spans.{holes, spans_forest}
use Rattle.markdown_inlines.proofs.ClosedLemmas.{frame-at}
use Rattle.markdown_inlines.proofs.MachineLemmas.{atom-further, atom-step, close-step, open-step, opens-further}
use Rattle.markdown_inlines.proofs.MachineLemmas.{run-further, run-step, text-step}
use Rattle.markdown_inlines.proofs.OpenedLemmas.{first-bracket, push-bracket, push-read, push-run, push-text}
use Rattle.markdown_inlines.proofs.OpenedLemmas.{reached-append, text-long}
use Rattle.markdown_inlines.proofs.ShapeLemmas.{atom-live, atom-size}

-- Equal lists.
same-opened : (start : ℕ) (frames : List Frame) (items : List Item) (bs cs : List Bracket) (xs ys : List Span)
    (es fs : List PlacedRun) → bs ≡ cs → xs ≡ ys → es ≡ fs → Opened start frames items bs xs es →
    Opened start frames items cs ys fs
same-opened start frames items bs cs xs ys es fs h k l o =
    subst (λ (x : List Bracket). Opened start frames items x ys fs) h
    (subst (λ (x : List Span). Opened start frames items bs x fs) k
    (subst (λ (x : List PlacedRun). Opened start frames items bs xs x) l o))

-- a bracket is open if one is listed
open-frames : (start : ℕ) (frames : List Frame) (items : List Item) (brackets : List Bracket) (spans : List Span)
    (runs : List PlacedRun) → Opened start frames items brackets spans runs →
    is_open frames ≡ not (length brackets == 0)
open-frames start [] items brackets spans runs h = sym (ap (λ (l : List Bracket). not (length l == 0)) h.0)
open-frames start (frame ∷ frames) items brackets spans runs h =
    let some : (length (bracket_of frame h.0 h.2 ∷ h.4) == 0) ≡ false = grind (arith, nat_tests) in
    sym (ap (λ (l : List Bracket). not (length l == 0)) h.7 ∙ ap not some)

abbrev made_bracket : ℕ → ℕ → ℕ → ℕ → Bool → Bracket
made_bracket at len place runs links =
    record { at = at; len = len; place = place; runs = runs; links = links }

abbrev definitions : Source → List ℕ → Bool
definitions source = has_form (map string_bytes source.labels.now.definitions.forms.now)

abbrev footnotes : Source → List ℕ → Bool
footnotes source = has_form (map string_bytes source.labels.now.footnotes.forms.now)

module _ (source : Source) (old new : Reading) (h : Reads source old) (empty : Bool) (before rest : List ℕ) (b : ℕ)
    (following : List ℕ) (empty_is : empty ≡ (length old.brackets.items == 0))
    (before_is : before ≡ take old.at source.text.now) (rest_is : rest ≡ drop old.at source.text.now)
    (is : drop old.at source.text.now ≡ b ∷ following) where
  open-is : not empty ≡ is_open h.state.frames
  open-is =
      ap not (empty_is ∙ ap (λ (k : ℕ). k == 0) (sym (length-reverse old.brackets.items)))
      ∙ sym
      (open-frames source.start h.state.frames h.state.items (reverse old.brackets.items) old.spans.items
      old.runs.items h.opened)

  is-here : drop h.state.at source.text.now ≡ b ∷ following
  is-here = ap (λ (k : ℕ). drop k source.text.now) h.at ∙ is

  front-here : (f : Front) → f ≡ front_at source.options.now (not empty) before b rest →
      front source.options.now (definitions source) (footnotes source) (is_open h.state.frames)
      (take h.state.at source.text.now) b following ≡ f
  front-here f e =
      ap (λ (l : List ℕ). front_at source.options.now (is_open h.state.frames) (take h.state.at source.text.now) b l)
      (sym (rest_is ∙ is))
      ∙ ap (λ (k : ℕ). front_at source.options.now (is_open h.state.frames) (take k source.text.now) b rest) h.at
      ∙ ap (λ (l : List ℕ). front_at source.options.now (is_open h.state.frames) l b rest) (sym before_is)
      ∙ ap (λ (t : Bool). front_at source.options.now t before b rest) (sym open-is) ∙ sym e

  -- where the reader is
  here : old.at ≡ reached source.start h.state.frames h.state.items
  here = sym h.at ∙ h.place

  pub atom-goes : (found : Atom) →
      is_atom (atom_forest found) ≡ front_at source.options.now (not empty) before b rest →
      IsAtomAdded found old new → Goes source old new
  atom-goes found e n =
      let forest : Forest = atom_forest found in
      let at_front = front-here (is_atom forest) e in
      let some : 0 < size forest = atom-further source.options.now (definitions source) (footnotes source)
      source.text.now (is_open h.state.frames) (take h.state.at source.text.now) b following forest at_front in
      record {
        further = omega (arith, some, n.at, atom-size found);
        reads = record {
          state = added h.state (read forest) (size forest);
          opened = same-opened source.start h.state.frames (h.state.items ++ read forest ∷ [])
              (reverse old.brackets.items) (reverse new.brackets.items)
              (old.spans.items ++ atom_spans old.at found) new.spans.items old.runs.items new.runs.items
              (ap reverse (sym n.brackets)) (sym n.spans) (sym n.runs)
              (push-read source.start h.state.frames h.state.items forest (reverse old.brackets.items)
              old.spans.items (atom_spans old.at found) old.runs.items h.opened
              (atom-live old.at found ∙ ap (λ (x : ℕ). spans_forest x forest) here));
          place =
              omega (
                arith,
                h.place,
                reached-append source.start h.state.frames h.state.items (read forest ∷ []),
              );
          lens = h.lens;
          at = omega (arith, h.at, n.at, atom-size found);
          links = h.links ∙ sym n.links;
          same =
              atom-step source.options.now (definitions source) (footnotes source) source.text.now h.state b
              following forest is-here at_front
              ∙ h.same;
        };
      }

  pub run-goes : (r : Run) → is_run r ≡ front_at source.options.now (not empty) before b rest →
      IsRunAdded r old new → Goes source old new
  run-goes r e n =
      let at_front = front-here (is_run r) e in
      let some : 0 < r.left = run-further source.options.now (definitions source) (footnotes source)
      source.text.now (is_open h.state.frames) (take h.state.at source.text.now) b following r at_front in
      record {
        further = omega (arith, some, n.at);
        reads = record {
          state = added h.state (run r) r.left;
          opened = same-opened source.start h.state.frames (h.state.items ++ run r ∷ [])
              (reverse old.brackets.items) (reverse new.brackets.items)
              (old.spans.items ++ holes (room r)) new.spans.items
              (old.runs.items
              ++ placed r (reached source.start h.state.frames h.state.items) (length old.spans.items) ∷ [])
              new.runs.items (ap reverse (sym n.brackets)) (sym n.spans)
              (ap (λ (x : ℕ). old.runs.items ++ placed r x (length old.spans.items) ∷ []) (sym here) ∙ sym n.runs)
              (push-run source.start h.state.frames h.state.items r (reverse old.brackets.items) old.spans.items
              old.runs.items some h.opened);
          place =
              omega (arith, h.place, reached-append source.start h.state.frames h.state.items (run r ∷ []));
          lens = h.lens;
          at = omega (arith, h.at, n.at);
          links = h.links ∙ sym n.links;
          same =
              run-step source.options.now (definitions source) (footnotes source) source.text.now h.state b
              following r is-here at_front
              ∙ h.same;
        };
      }

  pub text-goes : is_text ≡ front_at source.options.now (not empty) before b rest → IsTextAdded old new →
      Goes source old new
  text-goes e n =
      record {
        further = omega (arith, n.at);
        reads = record {
          state = added h.state (text_item 1) 1;
          opened = same-opened source.start h.state.frames (h.state.items ++ text_item 1 ∷ [])
              (reverse old.brackets.items) (reverse new.brackets.items) old.spans.items new.spans.items
              old.runs.items new.runs.items (ap reverse (sym n.brackets)) (sym n.spans) (sym n.runs)
              (push-text source.start h.state.frames h.state.items 1 (reverse old.brackets.items)
              old.spans.items old.runs.items h.opened);
          place =
              omega (
                arith,
                h.place,
                reached-append source.start h.state.frames h.state.items (text_item 1 ∷ []),
                text-long 1,
              );
          lens = h.lens;
          at = omega (arith, h.at, n.at);
          links = h.links ∙ sym n.links;
          same =
              text-step source.options.now (definitions source) (footnotes source) source.text.now h.state b
              following is-here (front-here is_text e)
              ∙ h.same;
        };
      }

  pub open-goes : (len : ℕ) → len ≤ 2 → opens len ≡ front_at source.options.now (not empty) before b rest →
      IsOpened len old new → Goes source old new
  open-goes len few e n =
      let at_front = front-here (opens len) e in
      let some : 0 < len = opens-further source.options.now (definitions source) (footnotes source)
      source.text.now (is_open h.state.frames) (take h.state.at source.text.now) b following len at_front in
      let frame : Frame = record { at = h.state.at; len = len; items = h.state.items; links = h.state.links } in
      record {
        further = omega (arith, some, n.at);
        reads = record {
          state = opened h.state len;
          opened = same-opened source.start (frame ∷ h.state.frames) []
              (bracket_of frame old.spans.items old.runs.items ∷ reverse old.brackets.items)
              (reverse new.brackets.items) (old.spans.items ++ holes bracket_room) new.spans.items old.runs.items
              new.runs.items (bracket-is len n) (sym n.spans) (sym n.runs)
              (push-bracket source.start h.state.frames frame (reverse old.brackets.items) old.spans.items
              old.runs.items h.place h.opened);
          place = omega arith;
          lens = (some, few, h.lens);
          at = omega (arith, h.at, n.at);
          links = sym n.links;
          same =
              open-step source.options.now (definitions source) (footnotes source) source.text.now h.state b
              following len is-here at_front
              ∙ h.same;
        };
      }
    where
      bracket-is : (len : ℕ) → IsOpened len old new →
          bracket_of (record { at = h.state.at; len = len; items = h.state.items; links = h.state.links })
          old.spans.items old.runs.items
          ∷ reverse old.brackets.items ≡
          reverse new.brackets.items
      bracket-is len n =
          ap
          (λ (x : ℕ). made_bracket x len (length old.spans.items) (length old.runs.items) h.state.links
          ∷ reverse old.brackets.items) h.at
          ∙ ap
          (λ (x : Bool). made_bracket old.at len (length old.spans.items) (length old.runs.items) x
          ∷ reverse old.brackets.items) h.links
          ∙ sym
          (ap reverse n.brackets
          ∙ reverse-append old.brackets.items
          (made_bracket old.at len (length old.spans.items) (length old.runs.items) old.links ∷ []))

-- A bracket is taken from the list.
pub record Popped (source : Source) (old mid : Reading) (h : Reads source old) (bracket : Bracket) : Type 0 where
  pub k : Closing source.start bracket mid
  pub frames : h.state.frames ≡ k.frame ∷ k.frames
  pub items : h.state.items ≡ k.items
  pub lens : Lens k.frames

pub popped : (source : Source) (old mid : Reading) (h : Reads source old) (bracket : Bracket) →
    old.brackets.items ≡ mid.brackets.items ++ bracket ∷ [] → mid.spans.items ≡ old.spans.items →
    mid.runs.items ≡ old.runs.items → mid.at ≡ old.at → Popped source old mid h bracket
popped source old mid h bracket b s r a =
    go h.state.frames refl
    (same-opened source.start h.state.frames h.state.items (reverse old.brackets.items)
    (bracket ∷ reverse mid.brackets.items) old.spans.items mid.spans.items old.runs.items mid.runs.items
    (ap reverse b ∙ reverse-append mid.brackets.items (bracket ∷ [])) (sym s) (sym r) h.opened) h.lens h.place
  where
    none : bracket ∷ reverse mid.brackets.items ≡ [] → ⊥
    none e = cc

    go : (frames : List Frame) → h.state.frames ≡ frames →
        Opened source.start frames h.state.items (bracket ∷ reverse mid.brackets.items) mid.spans.items mid.runs.items →
        Lens frames → h.state.at ≡ reached source.start frames h.state.items → Popped source old mid h bracket
    go [] e o l at = absurd (none o.0)
    go (frame ∷ frames) e o l at =
        let len : bracket.len ≡ frame.len =
        ap (λ (x : Bracket). x.len)
        (first-bracket bracket (bracket_of frame o.0 o.2) (reverse mid.brackets.items) o.4 o.7) in
        record {
          k = record {
            frames = frames;
            frame = frame;
            items = h.state.items;
            opened = o;
            place = a ∙ sym h.at ∙ at;
            len = (omega (arith, len, l.0), omega (arith, len, l.1));
          };
          frames = e;
          items = refl;
          lens = l.2;
        }

-- what is between the brackets
pub held-long : (source : Source) (old mid : Reading) (h : Reads source old) (bracket : Bracket) (b : ℕ)
    (following held : List ℕ) → Popped source old mid h bracket → mid.at ≡ old.at →
    drop old.at source.text.now ≡ b ∷ following →
    held ≡ drop bracket.len (drop bracket.at (take old.at source.text.now)) →
    bracket.at + bracket.len + length held ≡ mid.at
held-long source old mid h bracket b following held p a is same =
    let frame = frame-at source.start bracket mid p.k in
    let long : length (drop old.at source.text.now) ≡ suc (length following) = ap length is in
    let size_is : length held ≡ length (drop bracket.len (drop bracket.at (take old.at source.text.now))) =
    ap length same in
    omega (
      arith,
      a,
      p.k.place,
      frame.0,
      frame.1,
      size_is,
      long,
      length-drop bracket.len (drop bracket.at (take old.at source.text.now)),
      length-drop bracket.at (take old.at source.text.now),
      length-take-le old.at source.text.now (omega (arith, long, length-drop old.at source.text.now)),
      length-drop old.at source.text.now,
    )

pub close-goes : (source : Source) (old mid new : Reading) (h : Reads source old) (empty : Bool)
    (before rest : List ℕ) (b : ℕ) (following : List ℕ) → empty ≡ (length old.brackets.items == 0) →
    before ≡ take old.at source.text.now → rest ≡ drop old.at source.text.now →
    drop old.at source.text.now ≡ b ∷ following → (bracket : Bracket) (held after : List ℕ) →
    closes ≡ front_at source.options.now (not empty) before b rest → (p : Popped source old mid h bracket) →
    mid.at ≡ old.at → mid.links ≡ old.links →
    held ≡ drop bracket.len (drop bracket.at before) → after ≡ drop 1 rest →
    ClosedAs source.start bracket mid p.k
    (pair_at source.options.now (definitions source) (footnotes source) bracket.len p.k.items mid.links held after)
    new →
    Goes source old new
close-goes source old mid new h empty before rest b following e bi ri is bracket held after at_front p a l hi ai c =
    record {
      further = omega (arith, c.at, a);
      reads = record {
        state = closed_by p.k.frame p.k.frames p.k.items h.state.links h.state.at found;
        opened = c.opened;
        place = omega (arith, c.place, c.at, h.at, a);
        lens = p.lens;
        at = omega (arith, c.at, h.at, a);
        links = ap (λ (x : Bool). x || (h.state.links || pair_link found)) frame.2
            ∙ ap (λ (x : Bool). bracket.links || (x || pair_link found)) (h.links ∙ sym l)
            ∙ sym c.links;
        same =
            ap
            (λ (o : Option inlines.Pair). left_of source
            (closed_by p.k.frame p.k.frames p.k.items h.state.links h.state.at o)) found-is
            ∙ ap
            (λ (x : List Item). left_of source
            (closed_by p.k.frame p.k.frames x h.state.links h.state.at
            (reading.pair_at source.options.now (definitions source) (footnotes source) source.text.now p.k.frame
            x h.state.links h.state.at (drop 1 (drop h.state.at source.text.now))))) (sym p.items)
            ∙ close-step source.options.now (definitions source) (footnotes source) source.text.now h.state b
            following p.k.frame p.k.frames p.frames (ap (λ (k : ℕ). drop k source.text.now) h.at ∙ is)
            (ap
            (λ (t : Bool). front source.options.now (definitions source) (footnotes source) t
            (take h.state.at source.text.now) b following) (sym (ap is_open p.frames))
            ∙ front-here source old new h empty before rest b following e bi ri is closes at_front)
            ∙ h.same;
      };
    }
  where
    frame : (p.k.frame.at ≡ bracket.at) × (p.k.frame.len ≡ bracket.len) × (p.k.frame.links ≡ bracket.links)
    frame = frame-at source.start bracket mid p.k

    found : Option inlines.Pair
    found =
        pair_at source.options.now (definitions source) (footnotes source) bracket.len p.k.items mid.links held after

    held-is : held ≡ drop p.k.frame.len (drop p.k.frame.at (take h.state.at source.text.now))
    held-is =
        hi ∙ ap (λ (x : List ℕ). drop bracket.len (drop bracket.at x)) bi
        ∙ ap (λ (x : ℕ). drop bracket.len (drop bracket.at (take x source.text.now))) (sym h.at)
        ∙ ap (λ (x : ℕ). drop bracket.len (drop x (take h.state.at source.text.now))) (sym frame.0)
        ∙ ap (λ (x : ℕ). drop x (drop p.k.frame.at (take h.state.at source.text.now))) (sym frame.1)

    after-is : after ≡ drop 1 (drop h.state.at source.text.now)
    after-is = ai ∙ ap (drop 1) (ri ∙ ap (λ (x : ℕ). drop x source.text.now) (sym h.at))

    found-is : found ≡
        reading.pair_at source.options.now (definitions source) (footnotes source) source.text.now p.k.frame p.k.items
        h.state.links h.state.at (drop 1 (drop h.state.at source.text.now))
    found-is =
        ap
        (λ (x : ℕ). pair_at source.options.now (definitions source) (footnotes source) x p.k.items mid.links held
        after) (sym frame.1)
        ∙ ap
        (λ (x : Bool). pair_at source.options.now (definitions source) (footnotes source) p.k.frame.len p.k.items x held
        after) (l ∙ sym h.links)
        ∙ ap
        (λ (x : List ℕ). pair_at source.options.now (definitions source) (footnotes source) p.k.frame.len p.k.items
        h.state.links x after) held-is
        ∙ ap
        (λ (x : List ℕ). pair_at source.options.now (definitions source) (footnotes source) p.k.frame.len p.k.items
        h.state.links (drop p.k.frame.len (drop p.k.frame.at (take h.state.at source.text.now))) x) after-is
