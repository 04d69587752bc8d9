-- Reading from left to right gives the items of the definition.
use Rattle.std.proofs.Common.{◌≡◌, ℕ, zero, suc, ◌+◌, ◌-◌, ◌<◌, ◌≤◌, Bool, true, false, cond, ◌&&◌, List, [], ◌∷◌, ◌++◌}
use Rattle.std.proofs.Common.{length, take, drop, Option, Some, None, refl, ap, sym, subst, ◌∙◌, arith, append_assoc}
use Rattle.std.proofs.Common.{append-nil}
use Rattle.std.specs.Prelude.{◌==◌, ◌||◌, not}
use Rattle.std.proofs.lemmas.Bool.{and_parts}
use Rattle.std.proofs.lemmas.Bool.Decides.{nat_tests}
use Rattle.std.proofs.lemmas.List.{drop-drop, drop-take, drop_all, length-drop, take-append-drop, take-take}
use Rattle.md_meaning.specs.Ascii.{right_bracket}
use Rattle.md_meaning.specs.Rest.{run_len}
use Rattle.md_inline_events.specs.Forest.{Forest, size}
use Rattle.md_inlines.specs.Flanking.{run_at}
use Rattle.md_inlines.specs.declared.InlineOptions.{InlineOptions}
use Rattle.md_inlines.specs.declared.Run.{Run}
use Rattle.md_inlines.specs.Atoms.{atom}
use Rattle.md_inlines.specs.Brackets as e
use Rattle.md_inlines.specs.Brackets.{Front, Level, Pair, bracket_level, closes, content, front, front_level, is_atom}
use Rattle.md_inlines.specs.Brackets.{is_run, is_text, opens, text_item, with_items}
use Rattle.md_inlines.specs.Emphasis.{Item, read, run}
use Rattle.proof_inlines.proofs.ContentLemmas.{content-fine}
use Rattle.proof_inlines.proofs.Promise.{atom-front}
use Rattle.proof_inlines.proofs.TargetLemmas.{target-leads}
use Rattle.markdown_inlines.specs.Reading.{Frame, State, added, closed_by, is_open, left, level_at, opened}
use Rattle.markdown_inlines.specs.Reading.{pair_at, unwound, whole}

-- What is known of a front: what is there is not empty, and only an open bracket is closed.

abbrev FrontIs : Bool → Front → Type 0
FrontIs inside (is_atom found) = 0 < size found
FrontIs inside (is_run r) = 0 < r.left
FrontIs inside is_text = Unit {0}
FrontIs inside closes = inside ≡ true
FrontIs inside (opens len) = 0 < len

run-left : (mark : ℕ) (before text : List ℕ) → (run_at mark before text).left ≡ run_len mark text
unfolding run_at
run-left mark before text = refl

run-some : (b : ℕ) (text : List ℕ) → 0 < run_len b (b ∷ text)
run-some b text = go (b == b) (grind (arith, nat_tests))
  where
    go : (t : Bool) → t ≡ true → 0 < cond t (1 + run_len b text) 0
    go true e = omega arith
    go false e = cc

module _ (options : InlineOptions) (is_definition is_footnote : List ℕ → Bool) where
  front-is : (inside : Bool) (before : List ℕ) (b : ℕ) (text : List ℕ) →
      FrontIs inside (front options is_definition is_footnote inside before b text)
  front-is inside before b text = go (atom options (not inside) before (b ∷ text)) refl
    where
      ended : (c : Bool) → (inside && (b == right_bracket)) ≡ c → FrontIs inside (cond c closes is_text)
      ended true p = (and_parts inside (b == right_bracket) p).0
      ended false p = tt

      opened-is : (k : ℕ) (t : Bool) → (k == 0) ≡ t →
          FrontIs inside (cond (not t) (opens k) (cond (inside && (b == right_bracket)) closes is_text))
      opened-is k true p = ended (inside && (b == right_bracket)) refl
      opened-is k false p = grind (arith, nat_tests)

      other : (m : Bool) (k : ℕ) →
          FrontIs inside
          (cond m (is_run (run_at b before (b ∷ text)))
          (cond (not (k == 0)) (opens k) (cond (inside && (b == right_bracket)) closes is_text)))
      other true k = omega (arith, run-left b before (b ∷ text), run-some b text)
      other false k = opened-is k (k == 0) refl

      go : (o : Option Forest) → atom options (not inside) before (b ∷ text) ≡ o →
          FrontIs inside
          (elim o as (λ (_ : Option Forest). Front) [
            | Some found ↦ is_atom found
            | None ↦ cond (e.is_mark options is_definition is_footnote b) (is_run (run_at b before (b ∷ text)))
                (cond (not (e.opening options is_definition is_footnote (b ∷ text) == 0))
                (opens (e.opening options is_definition is_footnote (b ∷ text)))
                (cond (inside && (b == right_bracket)) closes is_text))
          ])
      go (Some found) is = (atom-front options (not inside) before (b ∷ text) found is).some
      go None is =
          other (e.is_mark options is_definition is_footnote b)
          (e.opening options is_definition is_footnote (b ∷ text))

-- Levels do not depend on how many steps are allowed, if these suffice.

abbrev Alike : (ℕ → Level) → (ℕ → Level) → Type 0
Alike next other = (k : ℕ) → 0 < k → next k ≡ other k

module _ (options : InlineOptions) (is_definition is_footnote : List ℕ → Bool) where
  bracket-alike : (next other : ℕ → Level) (text : List ℕ) (len : ℕ) (inner : Level) (rest : List ℕ) →
      length rest ≤ length text → Alike next other →
      bracket_level options is_definition is_footnote next text len inner rest ≡
      bracket_level options is_definition is_footnote other text len inner rest
  bracket-alike next other text len inner [] h same = refl
  bracket-alike next other text len inner (close ∷ after) h same =
      go
      (e.pair options is_definition is_footnote len inner (drop len (take (length text - length after - 1) text)) after)
    where
      go : (o : Option e.Pair) →
          elim o as (λ (_ : Option e.Pair). Level) [
            | None ↦
                with_items (text_item len ∷ inner.items ++ text_item 1 ∷ []) inner.links
                (next (length text - length after))
            | Some found ↦
                with_items (read found.forest ∷ []) (inner.links || found.is_link)
                (next (length text - length after + found.taken))
          ] ≡
          elim o as (λ (_ : Option e.Pair). Level) [
            | None ↦
                with_items (text_item len ∷ inner.items ++ text_item 1 ∷ []) inner.links
                (other (length text - length after))
            | Some found ↦
                with_items (read found.forest ∷ []) (inner.links || found.is_link)
                (other (length text - length after + found.taken))
          ]
      go None =
          ap (with_items (text_item len ∷ inner.items ++ text_item 1 ∷ []) inner.links)
          (same (length text - length after) (omega (arith, h)))
      go (Some found) =
          ap (with_items (read found.forest ∷ []) (inner.links || found.is_link))
          (same (length text - length after + found.taken) (omega (arith, h)))

  front-alike : (inside : Bool) (next other inner others : ℕ → Level) (text : List ℕ) (f : Front) →
      FrontIs inside f → Alike next other → Alike inner others →
      ((k : ℕ) → 0 < k → length (others k).rest ≤ length text) →
      front_level options is_definition is_footnote next inner text f ≡
      front_level options is_definition is_footnote other others text f
  front-alike inside next other inner others text (is_atom found) is same sames short =
      ap (with_items (read found ∷ []) false) (same (size found) is)
  front-alike inside next other inner others text (is_run r) is same sames short =
      ap (with_items (run r ∷ []) false) (same r.left is)
  front-alike inside next other inner others text is_text is same sames short =
      ap (with_items (text_item 1 ∷ []) false) (same 1 (omega arith))
  front-alike inside next other inner others text closes is same sames short = refl
  front-alike inside next other inner others text (opens len) is same sames short =
      ap
      (λ (l : Level). bracket_level options is_definition is_footnote next text len l l.rest) (sames len is)
      ∙ bracket-alike next other text len (others len) (others len).rest (short len is) same

  rest-short : (more : ℕ) (inside : Bool) (before text : List ℕ) → length text ≤ more →
      length (content options is_definition is_footnote more inside before text).rest ≤ length text
  rest-short more inside before text h =
      omega (
        arith,
        (content-fine options is_definition is_footnote (atom-front options) (target-leads options is_definition) more
            inside before text h).sized,
      )

  pub content-alike : (more least : ℕ) (inside : Bool) (before text : List ℕ) → length text ≤ more →
      length text ≤ least →
      content options is_definition is_footnote more inside before text ≡
      content options is_definition is_footnote least inside before text
  content-alike zero zero inside before [] h k = refl
  content-alike zero (suc least) inside before [] h k = refl
  content-alike (suc more) zero inside before [] h k = refl
  content-alike (suc more) (suc least) inside before [] h k = refl
  content-alike zero least inside before (b ∷ text) h k = absurd (omega (arith, h))
  content-alike (suc more) zero inside before (b ∷ text) h k = absurd (omega (arith, k))
  content-alike (suc more) (suc least) inside before (b ∷ text) h k =
      front-alike inside
      (λ len. content options is_definition is_footnote more inside (before ++ take len (b ∷ text))
      (drop len (b ∷ text)))
      (λ len. content options is_definition is_footnote least inside (before ++ take len (b ∷ text))
      (drop len (b ∷ text)))
      (λ len. content options is_definition is_footnote more true (before ++ take len (b ∷ text)) (drop len (b ∷ text)))
      (λ len. content options is_definition is_footnote least true (before ++ take len (b ∷ text))
      (drop len (b ∷ text)))
      (b ∷ text) (front options is_definition is_footnote inside before b text)
      (front-is options is_definition is_footnote inside before b text)
      (λ len some.
      content-alike more least inside (before ++ take len (b ∷ text)) (drop len (b ∷ text))
      (omega (arith, length-drop len (b ∷ text), h, some)) (omega (arith, length-drop len (b ∷ text), k, some)))
      (λ len some.
      content-alike more least true (before ++ take len (b ∷ text)) (drop len (b ∷ text))
      (omega (arith, length-drop len (b ∷ text), h, some)) (omega (arith, length-drop len (b ∷ text), k, some)))
      (λ len some.
      let short : length
      (content options is_definition is_footnote least true (before ++ take len (b ∷ text))
      (drop len (b ∷ text))).rest ≤
      length (drop len (b ∷ text)) =
      rest-short least true (before ++ take len (b ∷ text)) (drop len (b ∷ text))
      (omega (arith, length-drop len (b ∷ text), k, some)) in
      omega (arith, short, length-drop len (b ∷ text)))

take-add : (n m : ℕ) (xs : List ℕ) → take n xs ++ take m (drop n xs) ≡ take (n + m) xs
take-add n m xs =
    let within : n ≤ n + m = omega arith in
    ap (λ l. l ++ take m (drop n xs)) (sym (take-take n (n + m) xs within))
    ∙ ap (λ l. take n (take (n + m) xs) ++ l) (sym (drop-take n m xs))
    ∙ take-append-drop n (take (n + m) xs)

or-assoc : (a b c : Bool) → (a || (b || c)) ≡ ((a || b) || c)
or-assoc true b c = refl
or-assoc false b c = refl

or-false : (a : Bool) → (a || false) ≡ a
or-false true = refl
or-false false = refl

module _ (options : InlineOptions) (is_definition is_footnote : List ℕ → Bool) (text : List ℕ) where
  -- the level from a place on, by what is at its front
  at-step : (inside : Bool) (at b : ℕ) (rest : List ℕ) → drop at text ≡ b ∷ rest →
      level_at options is_definition is_footnote text inside at ≡
      front_level options is_definition is_footnote
      (λ k. level_at options is_definition is_footnote text inside (at + k))
      (λ k. level_at options is_definition is_footnote text true (at + k)) (b ∷ rest)
      (front options is_definition is_footnote inside (take at text) b rest)
  at-step inside at b rest is =
      ap
      (λ (l : List ℕ). content options is_definition is_footnote (length l) inside (take at text) l) is
      ∙ front-alike options is_definition is_footnote inside (λ k. cut inside k)
      (λ k. level_at options is_definition is_footnote text inside (at + k)) (λ k. cut true k)
      (λ k. level_at options is_definition is_footnote text true (at + k)) (b ∷ rest)
      (front options is_definition is_footnote inside (take at text) b rest)
      (front-is options is_definition is_footnote inside (take at text) b rest)
      (same inside) (same true)
      (λ k some.
      let short : length (level_at options is_definition is_footnote text true (at + k)).rest ≤
      length (drop (at + k) text) =
      rest-short options is_definition is_footnote (length (drop (at + k) text)) true (take (at + k) text)
      (drop (at + k) text)
      (omega arith) in
      let less : length (drop (at + k) text) ≡ length (b ∷ rest) - k =
      ap length (sym (drop-drop k at text)) ∙ ap (λ l. length (drop k l)) is ∙ length-drop k (b ∷ rest) in
      omega (arith, short, less))
    where
      cut : Bool → ℕ → Level
      cut deep k = content options is_definition is_footnote (length rest) deep (take at text ++ take k (b ∷ rest))
          (drop k (b ∷ rest))

      same : (deep : Bool) (k : ℕ) → 0 < k →
          content options is_definition is_footnote (length rest) deep (take at text ++ take k (b ∷ rest))
          (drop k (b ∷ rest)) ≡
          level_at options is_definition is_footnote text deep (at + k)
      same deep k some =
          let tail : drop k (b ∷ rest) ≡ drop (at + k) text = ap (drop k) (sym is) ∙ drop-drop k at text in
          let front_is : take at text ++ take k (b ∷ rest) ≡ take (at + k) text =
          ap (λ l. take at text ++ take k l) (sym is) ∙ take-add at k text in
          content-alike options is_definition is_footnote (length rest) (length (drop k (b ∷ rest))) deep
          (take at text ++ take k (b ∷ rest)) (drop k (b ∷ rest))
          (omega (arith, length-drop k (b ∷ rest), some)) (omega arith)
          ∙ ap
          (λ (l : List ℕ). content options is_definition is_footnote (length l) deep
          (take at text ++ take k (b ∷ rest)) l) tail
          ∙ ap
          (λ (l : List ℕ). content options is_definition is_footnote (length (drop (at + k) text)) deep l
          (drop (at + k) text)) front_is

  -- where nothing more is read, all that is open is text
  whole-end : (frames : List Frame) (items : List Item) (links : Bool) →
      whole options is_definition is_footnote text frames items links [] ≡ unwound frames items
  whole-end [] items links = refl
  whole-end (frame ∷ frames) items links = refl

  -- all items, where the level is this
  abbrev over_level : State → Level → List Item
  over_level s level =
      whole options is_definition is_footnote text s.frames (s.items ++ level.items) (s.links || level.links) level.rest

  left-at : (s : State) (level : Level) →
      level_at options is_definition is_footnote text (is_open s.frames) s.at ≡ level →
      left options is_definition is_footnote text s ≡ over_level s level
  left-at s level h = ap (over_level s) h

  moved : (s : State) (item : Item) (len : ℕ) (level : Level) →
      over_level s (with_items (item ∷ []) false level) ≡ over_level (added s item len) level
  moved s item len level =
      ap
      (λ (l : List Item). whole options is_definition is_footnote text s.frames l (s.links || level.links) level.rest)
      (sym (append_assoc s.items (item ∷ []) level.items))

  -- A step by what is at the front.
  step-by : (s : State) (b : ℕ) (rest : List ℕ) (f : Front) → drop s.at text ≡ b ∷ rest →
      front options is_definition is_footnote (is_open s.frames) (take s.at text) b rest ≡ f →
      left options is_definition is_footnote text s ≡
      over_level s
      (front_level options is_definition is_footnote
      (λ k. level_at options is_definition is_footnote text (is_open s.frames) (s.at + k))
      (λ k. level_at options is_definition is_footnote text true (s.at + k)) (b ∷ rest) f)
  step-by s b rest f is h =
      left-at s
      (front_level options is_definition is_footnote
      (λ k. level_at options is_definition is_footnote text (is_open s.frames) (s.at + k))
      (λ k. level_at options is_definition is_footnote text true (s.at + k)) (b ∷ rest) f)
      (at-step (is_open s.frames) s.at b rest is
      ∙ ap
      (front_level options is_definition is_footnote
      (λ k. level_at options is_definition is_footnote text (is_open s.frames) (s.at + k))
      (λ k. level_at options is_definition is_footnote text true (s.at + k)) (b ∷ rest)) h)

  pub atom-step : (s : State) (b : ℕ) (rest : List ℕ) (found : Forest) → drop s.at text ≡ b ∷ rest →
      front options is_definition is_footnote (is_open s.frames) (take s.at text) b rest ≡ is_atom found →
      left options is_definition is_footnote text (added s (read found) (size found)) ≡
      left options is_definition is_footnote text s
  atom-step s b rest found is h =
      sym
      (step-by s b rest (is_atom found) is h
      ∙ moved s (read found) (size found)
      (level_at options is_definition is_footnote text (is_open s.frames) (s.at + size found)))

  pub run-step : (s : State) (b : ℕ) (rest : List ℕ) (r : Run) → drop s.at text ≡ b ∷ rest →
      front options is_definition is_footnote (is_open s.frames) (take s.at text) b rest ≡ is_run r →
      left options is_definition is_footnote text (added s (run r) r.left) ≡
      left options is_definition is_footnote text s
  run-step s b rest r is h =
      sym
      (step-by s b rest (is_run r) is h
      ∙ moved s (run r) r.left
      (level_at options is_definition is_footnote text (is_open s.frames) (s.at + r.left)))

  pub text-step : (s : State) (b : ℕ) (rest : List ℕ) → drop s.at text ≡ b ∷ rest →
      front options is_definition is_footnote (is_open s.frames) (take s.at text) b rest ≡ is_text →
      left options is_definition is_footnote text (added s (text_item 1) 1) ≡
      left options is_definition is_footnote text s
  text-step s b rest is h =
      sym
      (step-by s b rest is_text is h
      ∙ moved s (text_item 1) 1
      (level_at options is_definition is_footnote text (is_open s.frames) (s.at + 1)))

  -- all items, from a place on
  abbrev from : List Frame → List Item → Bool → ℕ → List Item
  from frames items links at =
      left options is_definition is_footnote text
      (record { frames = frames; items = items; links = links; at = at })

  same-from : (frames : List Frame) (a b : List Item) (k l : Bool) (n m : ℕ) → a ≡ b → k ≡ l → n ≡ m →
      from frames a k n ≡ from frames b l m
  same-from frames a b k l n m p q r =
      ap (λ (x : List Item). from frames x k n) p ∙ ap (λ (x : Bool). from frames b x n) q
      ∙ ap (λ (x : ℕ). from frames b l x) r

  moved-with : (s : State) (items : List Item) (links : Bool) (at : ℕ) →
      over_level s
      (with_items items links (level_at options is_definition is_footnote text (is_open s.frames) at)) ≡
      from s.frames (s.items ++ items) (s.links || links) at
  moved-with s items links at =
      let level : Level = level_at options is_definition is_footnote text (is_open s.frames) at in
      ap
      (λ (l : List Item). whole options is_definition is_footnote text s.frames l (s.links || (links || level.links))
      level.rest)
      (sym (append_assoc s.items items level.items))
      ∙ ap
      (λ (k : Bool). whole options is_definition is_footnote text s.frames
      ((s.items ++ items) ++ level.items) k level.rest)
      (or-assoc s.links links level.links)

  -- what a `]` leaves, by the items, the links, the place and what follows
  abbrev after_close : Frame → List Frame → List Item → Bool → ℕ → List ℕ → List Item
  after_close frame frames items links at after =
      left options is_definition is_footnote text
      (closed_by frame frames items links at
      (pair_at options is_definition is_footnote text frame items links at after))

  close-at : (frame : Frame) (frames : List Frame) (items : List Item) (links : Bool) (at b : ℕ) (rest : List ℕ) →
      drop at text ≡ b ∷ rest →
      front options is_definition is_footnote true (take at text) b rest ≡ closes →
      after_close frame frames items links at (drop 1 (drop at text)) ≡ from (frame ∷ frames) items links at
  close-at frame frames items links at b rest is h =
      let place : length text - suc (length rest) ≡ at = omega (arith, ap length is, length-drop at text) in
      sym
      (step-by (record { frames = frame ∷ frames; items = items; links = links; at = at }) b rest closes is h
      ∙ ap
      (λ (l : List Item). after_close frame frames l (links || false) (length text - suc (length rest)) rest)
      (append-nil items)
      ∙ ap
      (λ (k : Bool). after_close frame frames items k (length text - suc (length rest)) rest) (or-false links)
      ∙ ap (λ (k : ℕ). after_close frame frames items links k rest) place
      ∙ ap (λ (l : List ℕ). after_close frame frames items links at (drop 1 l)) (sym is))

  pub close-step : (s : State) (b : ℕ) (rest : List ℕ) (frame : Frame) (frames : List Frame) →
      s.frames ≡ frame ∷ frames → drop s.at text ≡ b ∷ rest →
      front options is_definition is_footnote true (take s.at text) b rest ≡ closes →
      after_close frame frames s.items s.links s.at (drop 1 (drop s.at text)) ≡
      left options is_definition is_footnote text s
  close-step s b rest frame frames same is h =
      close-at frame frames s.items s.links s.at b rest is h
      ∙ ap (λ (l : List Frame). from l s.items s.links s.at) (sym same)

  opened-level : (s : State) (b : ℕ) (rest : List ℕ) (len : ℕ) (inner : Level) (tail : List ℕ) →
      drop s.at text ≡ b ∷ rest → length tail ≤ length (b ∷ rest) →
      whole options is_definition is_footnote text
      (record { at = s.at; len = len; items = s.items; links = s.links } ∷ s.frames) inner.items inner.links tail ≡
      over_level s
      (bracket_level options is_definition is_footnote
      (λ k. level_at options is_definition is_footnote text (is_open s.frames) (s.at + k)) (b ∷ rest) len inner tail)
  opened-level s b rest len inner [] is short =
      sym (whole-end s.frames (s.items ++ text_item len ∷ inner.items) (s.links || inner.links))
  opened-level s b rest len inner (close ∷ after) is short =
      ap
      (λ (found : Option Pair). left options is_definition is_footnote text
      (closed_by frame s.frames inner.items inner.links place found)) found_is
      ∙ go (e.pair options is_definition is_footnote len inner held after)
    where
      frame : Frame
      frame = record { at = s.at; len = len; items = s.items; links = s.links }

      place : ℕ
      place = length text - suc (length after)

      width : ℕ
      width = length (b ∷ rest) - length after

      held : List ℕ
      held = drop len (take (length (b ∷ rest) - length after - 1) (b ∷ rest))

      long : length text ≡ s.at + length (b ∷ rest)
      long = omega (arith, ap length is, length-drop s.at text)

      held-is : drop len (drop s.at (take place text)) ≡ held
      held-is =
          let sum : s.at + (length (b ∷ rest) - length after - 1) ≡ place = omega (arith, long, short) in
          ap (λ k. drop len (drop s.at (take k text))) (sym sum)
          ∙ ap (drop len) (drop-take s.at (length (b ∷ rest) - length after - 1) text)
          ∙ ap (λ l. drop len (take (length (b ∷ rest) - length after - 1) l)) is

      found_is : pair_at options is_definition is_footnote text frame inner.items inner.links place after ≡
          e.pair options is_definition is_footnote len inner held after
      found_is = ap (λ (l : List ℕ). e.pair options is_definition is_footnote len inner l after) held-is

      go : (q : Option Pair) →
          left options is_definition is_footnote text (closed_by frame s.frames inner.items inner.links place q) ≡
          over_level s
          (elim q as (λ (_ : Option Pair). Level) [
            | None ↦
                with_items (text_item len ∷ inner.items ++ text_item 1 ∷ []) inner.links
                (level_at options is_definition is_footnote text (is_open s.frames) (s.at + width))
            | Some found ↦
                with_items (read found.forest ∷ []) (inner.links || found.is_link)
                (level_at options is_definition is_footnote text (is_open s.frames) (s.at + (width + found.taken)))
          ])
      go None =
          same-from s.frames (s.items ++ (text_item len ∷ inner.items ++ text_item 1 ∷ []))
          (s.items ++ (text_item len ∷ inner.items ++ text_item 1 ∷ [])) (s.links || (inner.links || false))
          (s.links || inner.links) (place + 1 + 0) (s.at + width) refl
          (ap (λ k. s.links || k) (or-false inner.links)) (omega (arith, long, short))
          ∙ sym
          (moved-with s (text_item len ∷ inner.items ++ text_item 1 ∷ []) inner.links (s.at + width))
      go (Some found) =
          same-from s.frames (s.items ++ read found.forest ∷ []) (s.items ++ read found.forest ∷ [])
          (s.links || (inner.links || found.is_link)) (s.links || (inner.links || found.is_link))
          (place + 1 + found.taken) (s.at + (width + found.taken)) refl refl (omega (arith, long, short))
          ∙ sym
          (moved-with s (read found.forest ∷ []) (inner.links || found.is_link) (s.at + (width + found.taken)))

  pub open-step : (s : State) (b : ℕ) (rest : List ℕ) (len : ℕ) → drop s.at text ≡ b ∷ rest →
      front options is_definition is_footnote (is_open s.frames) (take s.at text) b rest ≡ opens len →
      left options is_definition is_footnote text (opened s len) ≡ left options is_definition is_footnote text s
  open-step s b rest len is h =
      let inner : Level = level_at options is_definition is_footnote text true (s.at + len) in
      let less : length (drop (s.at + len) text) ≡ length (b ∷ rest) - len =
      ap length (sym (drop-drop len s.at text)) ∙ ap (λ l. length (drop len l)) is ∙ length-drop len (b ∷ rest) in
      let short : length inner.rest ≤ length (drop (s.at + len) text) =
      rest-short options is_definition is_footnote (length (drop (s.at + len) text)) true (take (s.at + len) text)
      (drop (s.at + len) text) (omega arith) in
      opened-level s b rest len inner inner.rest is (omega (arith, less, short))
      ∙ sym (step-by s b rest (opens len) is h)

  -- how far a step goes
  further : (inside : Bool) (before : List ℕ) (b : ℕ) (rest : List ℕ) (f : Front) →
      front options is_definition is_footnote inside before b rest ≡ f → FrontIs inside f
  further inside before b rest f h =
      subst (λ (g : Front). FrontIs inside g) h
      (front-is options is_definition is_footnote inside before b rest)

  pub atom-further : (inside : Bool) (before : List ℕ) (b : ℕ) (rest : List ℕ) (found : Forest) →
      front options is_definition is_footnote inside before b rest ≡ is_atom found → 0 < size found
  atom-further inside before b rest found h = further inside before b rest (is_atom found) h

  pub run-further : (inside : Bool) (before : List ℕ) (b : ℕ) (rest : List ℕ) (r : Run) →
      front options is_definition is_footnote inside before b rest ≡ is_run r → 0 < r.left
  run-further inside before b rest r h = further inside before b rest (is_run r) h

  pub opens-further : (inside : Bool) (before : List ℕ) (b : ℕ) (rest : List ℕ) (len : ℕ) →
      front options is_definition is_footnote inside before b rest ≡ opens len → 0 < len
  opens-further inside before b rest len h = further inside before b rest (opens len) h

  -- where the text ends
  pub left-end : (s : State) → length text ≤ s.at →
      left options is_definition is_footnote text s ≡ unwound s.frames s.items
  left-end s h =
      let none : drop s.at text ≡ [] = drop_all s.at text h in
      left-at s (record { items = []; links = false; rest = [] })
      (ap
      (λ (l : List ℕ). content options is_definition is_footnote (length l) (is_open s.frames) (take s.at text) l) none)
      ∙ whole-end s.frames (s.items ++ []) (s.links || false) ∙ ap (unwound s.frames) (append-nil s.items)
