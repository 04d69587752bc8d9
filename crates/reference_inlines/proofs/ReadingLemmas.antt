-- Reading from left to right gives the items of the definition.
use Rattle.std.proofs.Common.{◌≡◌, ℕ, zero, suc, ◌+◌, ◌-◌, ◌<◌, ◌≤◌, Bool, true, false, cond, ◌&&◌, List, [], ◌∷◌, ◌++◌}
use Rattle.std.proofs.Common.{length, take, drop, Option, Some, None, refl, ap, sym, subst, ◌∙◌, arith, append_assoc}
use Rattle.std.proofs.Common.{append-nil}
use Rattle.std.specs.Prelude.{◌==◌, ◌||◌, not, option_map}
use Rattle.std.proofs.lemmas.Bool.{and_parts}
use Rattle.std.proofs.lemmas.Bool.Decides.{nat_tests}
use Rattle.std.proofs.lemmas.List.{drop-drop, drop-take, drop_all, drop_at, length-drop, take-append-drop, take-take}
use Rattle.std.proofs.lemmas.List.{take_at}
use Rattle.md_engine.specs.declared.event.Name.TheVariants as n
use Rattle.md_meaning.specs.Ascii.{right_bracket}
use Rattle.md_meaning.specs.Rest.{run_len}
use Rattle.md_inline_events.specs.Forest.{Forest, nothing, over, part, piece, size}
use Rattle.md_inlines.specs.Flanking.{run_at}
use Rattle.md_inlines.specs.declared.InlineOptions.{InlineOptions}
use Rattle.md_inlines.specs.declared.Run.{Run}
use Rattle.md_inlines.specs.Atoms.{atom}
use Rattle.md_inlines.specs.Brackets as e
use Rattle.md_inlines.specs.Brackets.{Front, Level, bracket_level, closes, content, front, front_level, is_atom, is_run}
use Rattle.md_inlines.specs.Brackets.{is_text, opens, text_item, with_items}
use Rattle.md_inlines.specs.Emphasis.{Item, emphasis, read, run}
use Rattle.md_inlines.specs.Targets as targets
use Rattle.md_inlines.specs.Targets.{call, image, is_call, link}
use Rattle.proof_inlines.proofs.ContentLemmas.{content-fine}
use Rattle.proof_inlines.proofs.ContentForests.{size-part, size-piece}
use Rattle.proof_inlines.proofs.Promise.{atom-front}
use Rattle.proof_inlines.proofs.TargetLemmas.{target-leads}
use Rattle.reference_inlines.specs.Nodes.{items_nodes, len_of_all, nodes, pieces}
use Rattle.reference_inlines.specs.Pairs as p
use Rattle.reference_inlines.specs.Pairs.{MadePair, image_front, label_close, leading_nodes, link_front}
use Rattle.reference_inlines.specs.Reading.{State, added, closed_by, is_open, left, level_at, opened, pair_at, whole}
use Rattle.reference_inlines.specs.Rounds.{emphasis_nodes}
use Rattle.reference_inlines.specs.declared.brackets.Open.{Open}
use Rattle.reference_inlines.specs.declared.node.Node.{Node}
use Rattle.reference_inlines.specs.declared.node.Node.TheVariants as node
use Rattle.reference_inlines.proofs.LeadingLemmas.{target-is}
use Rattle.reference_inlines.proofs.NodeLemmas.{items-append, nodes-over, pieces_some}
use Rattle.reference_inlines.proofs.RoundLemmas.{emphasis-nodes}

-- Over how many bytes nodes are.

len-append : (xs ys : List Node) → len_of_all (xs ++ ys) ≡ len_of_all xs + len_of_all ys
len-append [] ys = omega arith
len-append (x ∷ xs) ys = omega (arith, len-append xs ys)

pub size-nodes : (forest : Forest) → size forest ≡ len_of_all (nodes forest)
size-nodes nothing = refl
size-nodes (piece name more following) = omega (arith, size-piece name more following, size-nodes following)
size-nodes (part name inside following) =
    omega (
      arith,
      size-part name inside following,
      size-nodes inside,
      size-nodes following,
      len-append (nodes inside) (node.End ∷ nodes following),
    )

-- Pairs.

link-nodes : (inside leads : Forest) →
    nodes (link inside leads) ≡ leading_nodes true (nodes inside) (nodes leads)
link-nodes inside leads = simp append_assoc

image-nodes : (inside leads : Forest) →
    nodes (image inside leads) ≡ leading_nodes false (nodes inside) (nodes leads)
image-nodes inside leads = simp append_assoc

call-nodes : (len : ℕ) → nodes (call len) ≡ (p.call_made len).list
call-nodes zero = refl
call-nodes (suc more) = refl

abbrev made_pair : e.Pair → MadePair
made_pair pair = record { list = nodes pair.forest; taken = pair.taken; is_link = pair.is_link }

-- a pair of these nodes
abbrev with_list : Bool → List Node → ℕ → MadePair
with_list l a k = record { list = a; taken = k; is_link = l }

same-made : (a b : List Node) (k m : ℕ) (l : Bool) → a ≡ b → k ≡ m → with_list l a k ≡ with_list l b m
same-made a b k m l p q = ap (λ (x : List Node). with_list l x k) p ∙ ap (with_list l b) q

module _ (options : InlineOptions) (is_definition is_footnote : List ℕ → Bool) where
  link-made : (items : List Item) (leads : Forest) →
      made_pair (e.leading options is_definition is_footnote link true items leads) ≡
      p.leading options true (items_nodes items) (nodes leads)
  link-made items leads =
      same-made (nodes (link (emphasis options.gfm_strikethrough_single_tilde items) leads))
      (leading_nodes true (emphasis_nodes options.gfm_strikethrough_single_tilde (items_nodes items)) (nodes leads))
      (size leads) (len_of_all (nodes leads)) true
      (link-nodes (emphasis options.gfm_strikethrough_single_tilde items) leads
      ∙ ap (λ l. leading_nodes true l (nodes leads)) (emphasis-nodes options.gfm_strikethrough_single_tilde items))
      (size-nodes leads)

  image-made : (items : List Item) (leads : Forest) →
      made_pair (e.leading options is_definition is_footnote image false items leads) ≡
      p.leading options false (items_nodes items) (nodes leads)
  image-made items leads =
      same-made (nodes (image (emphasis options.gfm_strikethrough_single_tilde items) leads))
      (leading_nodes false (emphasis_nodes options.gfm_strikethrough_single_tilde (items_nodes items)) (nodes leads))
      (size leads) (len_of_all (nodes leads)) false
      (image-nodes (emphasis options.gfm_strikethrough_single_tilde items) leads
      ∙ ap (λ l. leading_nodes false l (nodes leads)) (emphasis-nodes options.gfm_strikethrough_single_tilde items))
      (size-nodes leads)

  pair-made : (len : ℕ) (inner : Level) (inside after : List ℕ) →
      option_map made_pair (e.pair options is_definition is_footnote len inner inside after) ≡
      p.pair options is_definition is_footnote len (items_nodes inner.items) inner.links inside after
  pair-made len inner inside after =
      go (len == 2) (options.constructs.gfm_footnote_call && is_call is_footnote inside)
      (inner.links || not options.constructs.label_start_link)
      (targets.target options is_definition inside after)
      ∙ ap
      (λ (o : Option (List Node)). cond (len == 2) (option_map (p.leading options false (items_nodes inner.items)) o)
      (cond (options.constructs.gfm_footnote_call && is_call is_footnote inside)
      (Some (p.call_made (length inside - 1)))
      (cond (inner.links || not options.constructs.label_start_link) None
      (option_map (p.leading options true (items_nodes inner.items)) o))))
      (sym (target-is options is_definition inside after))
    where
      go : (x y z : Bool) (o : Option Forest) →
          option_map made_pair
          (cond x (option_map (e.leading options is_definition is_footnote image false inner.items) o)
          (cond y (Some (record { forest = call (length inside - 1); taken = 0; is_link = false }))
          (cond z None (option_map (e.leading options is_definition is_footnote link true inner.items) o)))) ≡
          cond x (option_map (p.leading options false (items_nodes inner.items)) (option_map nodes o))
          (cond y (Some (p.call_made (length inside - 1)))
          (cond z None
          (option_map (p.leading options true (items_nodes inner.items)) (option_map nodes o))))
      go true y z None = refl
      go true y z (Some leads) = ap (λ (m : MadePair). Some m) (image-made inner.items leads)
      go false true z o =
          ap (λ (m : MadePair). Some m)
          (same-made (nodes (call (length inside - 1))) (p.call_made (length inside - 1)).list 0 0 false
          (call-nodes (length inside - 1)) refl)
      go false false true o = refl
      go false false false None = refl
      go false false false (Some leads) = ap (λ (m : MadePair). Some m) (link-made inner.items leads)

-- What is known of a front: what is there is not empty, and only an open bracket is closed.

abbrev FrontIs : Bool → Front → Type 0
FrontIs inside (is_atom found) = 0 < size found
FrontIs inside (is_run r) = 0 < r.left
FrontIs inside is_text = Unit {0}
FrontIs inside closes = inside ≡ true
FrontIs inside (opens len) = 0 < len

run-left : (mark : ℕ) (before text : List ℕ) → (run_at mark before text).left ≡ run_len mark text
unfolding run_at
run-left mark before text = refl

run-some : (b : ℕ) (text : List ℕ) → 0 < run_len b (b ∷ text)
run-some b text = go (b == b) (grind (arith, nat_tests))
  where
    go : (t : Bool) → t ≡ true → 0 < cond t (1 + run_len b text) 0
    go true e = omega arith
    go false e = cc

module _ (options : InlineOptions) (is_definition is_footnote : List ℕ → Bool) where
  front-is : (inside : Bool) (before : List ℕ) (b : ℕ) (text : List ℕ) →
      FrontIs inside (front options is_definition is_footnote inside before b text)
  front-is inside before b text = go (atom options (not inside) before (b ∷ text)) refl
    where
      ended : (c : Bool) → (inside && (b == right_bracket)) ≡ c → FrontIs inside (cond c closes is_text)
      ended true p = (and_parts inside (b == right_bracket) p).0
      ended false p = tt

      opened-is : (k : ℕ) (t : Bool) → (k == 0) ≡ t →
          FrontIs inside (cond (not t) (opens k) (cond (inside && (b == right_bracket)) closes is_text))
      opened-is k true p = ended (inside && (b == right_bracket)) refl
      opened-is k false p = grind (arith, nat_tests)

      other : (m : Bool) (k : ℕ) →
          FrontIs inside
          (cond m (is_run (run_at b before (b ∷ text)))
          (cond (not (k == 0)) (opens k) (cond (inside && (b == right_bracket)) closes is_text)))
      other true k = omega (arith, run-left b before (b ∷ text), run-some b text)
      other false k = opened-is k (k == 0) refl

      go : (o : Option Forest) → atom options (not inside) before (b ∷ text) ≡ o →
          FrontIs inside
          (elim o as (λ (_ : Option Forest). Front) [
            | Some found ↦ is_atom found
            | None ↦ cond (e.is_mark options is_definition is_footnote b) (is_run (run_at b before (b ∷ text)))
                (cond (not (e.opening options is_definition is_footnote (b ∷ text) == 0))
                (opens (e.opening options is_definition is_footnote (b ∷ text)))
                (cond (inside && (b == right_bracket)) closes is_text))
          ])
      go (Some found) is = (atom-front options (not inside) before (b ∷ text) found is).some
      go None is =
          other (e.is_mark options is_definition is_footnote b)
          (e.opening options is_definition is_footnote (b ∷ text))

-- Levels do not depend on how many steps are allowed, if these suffice.

abbrev Alike : (ℕ → Level) → (ℕ → Level) → Type 0
Alike next other = (k : ℕ) → 0 < k → next k ≡ other k

module _ (options : InlineOptions) (is_definition is_footnote : List ℕ → Bool) where
  bracket-alike : (next other : ℕ → Level) (text : List ℕ) (len : ℕ) (inner : Level) (rest : List ℕ) →
      length rest ≤ length text → Alike next other →
      bracket_level options is_definition is_footnote next text len inner rest ≡
      bracket_level options is_definition is_footnote other text len inner rest
  bracket-alike next other text len inner [] h same = refl
  bracket-alike next other text len inner (close ∷ after) h same =
      go
      (e.pair options is_definition is_footnote len inner (drop len (take (length text - length after - 1) text)) after)
    where
      go : (o : Option e.Pair) →
          elim o as (λ (_ : Option e.Pair). Level) [
            | None ↦
                with_items (text_item len ∷ inner.items ++ text_item 1 ∷ []) inner.links
                (next (length text - length after))
            | Some found ↦
                with_items (read found.forest ∷ []) (inner.links || found.is_link)
                (next (length text - length after + found.taken))
          ] ≡
          elim o as (λ (_ : Option e.Pair). Level) [
            | None ↦
                with_items (text_item len ∷ inner.items ++ text_item 1 ∷ []) inner.links
                (other (length text - length after))
            | Some found ↦
                with_items (read found.forest ∷ []) (inner.links || found.is_link)
                (other (length text - length after + found.taken))
          ]
      go None =
          ap (with_items (text_item len ∷ inner.items ++ text_item 1 ∷ []) inner.links)
          (same (length text - length after) (omega (arith, h)))
      go (Some found) =
          ap (with_items (read found.forest ∷ []) (inner.links || found.is_link))
          (same (length text - length after + found.taken) (omega (arith, h)))

  front-alike : (inside : Bool) (next other inner others : ℕ → Level) (text : List ℕ) (f : Front) →
      FrontIs inside f → Alike next other → Alike inner others →
      ((k : ℕ) → 0 < k → length (others k).rest ≤ length text) →
      front_level options is_definition is_footnote next inner text f ≡
      front_level options is_definition is_footnote other others text f
  front-alike inside next other inner others text (is_atom found) is same sames short =
      ap (with_items (read found ∷ []) false) (same (size found) is)
  front-alike inside next other inner others text (is_run r) is same sames short =
      ap (with_items (run r ∷ []) false) (same r.left is)
  front-alike inside next other inner others text is_text is same sames short =
      ap (with_items (text_item 1 ∷ []) false) (same 1 (omega arith))
  front-alike inside next other inner others text closes is same sames short = refl
  front-alike inside next other inner others text (opens len) is same sames short =
      ap
      (λ (l : Level). bracket_level options is_definition is_footnote next text len l l.rest) (sames len is)
      ∙ bracket-alike next other text len (others len) (others len).rest (short len is) same

  rest-short : (more : ℕ) (inside : Bool) (before text : List ℕ) → length text ≤ more →
      length (content options is_definition is_footnote more inside before text).rest ≤ length text
  rest-short more inside before text h =
      omega (
        arith,
        (content-fine options is_definition is_footnote (atom-front options) (target-leads options is_definition) more
            inside before text h).sized,
      )

  pub content-alike : (more least : ℕ) (inside : Bool) (before text : List ℕ) → length text ≤ more →
      length text ≤ least →
      content options is_definition is_footnote more inside before text ≡
      content options is_definition is_footnote least inside before text
  content-alike zero zero inside before [] h k = refl
  content-alike zero (suc least) inside before [] h k = refl
  content-alike (suc more) zero inside before [] h k = refl
  content-alike (suc more) (suc least) inside before [] h k = refl
  content-alike zero least inside before (b ∷ text) h k = absurd (omega (arith, h))
  content-alike (suc more) zero inside before (b ∷ text) h k = absurd (omega (arith, k))
  content-alike (suc more) (suc least) inside before (b ∷ text) h k =
      front-alike inside
      (λ len. content options is_definition is_footnote more inside (before ++ take len (b ∷ text))
      (drop len (b ∷ text)))
      (λ len. content options is_definition is_footnote least inside (before ++ take len (b ∷ text))
      (drop len (b ∷ text)))
      (λ len. content options is_definition is_footnote more true (before ++ take len (b ∷ text)) (drop len (b ∷ text)))
      (λ len. content options is_definition is_footnote least true (before ++ take len (b ∷ text))
      (drop len (b ∷ text)))
      (b ∷ text) (front options is_definition is_footnote inside before b text)
      (front-is options is_definition is_footnote inside before b text)
      (λ len some.
      content-alike more least inside (before ++ take len (b ∷ text)) (drop len (b ∷ text))
      (omega (arith, length-drop len (b ∷ text), h, some)) (omega (arith, length-drop len (b ∷ text), k, some)))
      (λ len some.
      content-alike more least true (before ++ take len (b ∷ text)) (drop len (b ∷ text))
      (omega (arith, length-drop len (b ∷ text), h, some)) (omega (arith, length-drop len (b ∷ text), k, some)))
      (λ len some.
      let short : length
      (content options is_definition is_footnote least true (before ++ take len (b ∷ text))
      (drop len (b ∷ text))).rest ≤
      length (drop len (b ∷ text)) =
      rest-short least true (before ++ take len (b ∷ text)) (drop len (b ∷ text))
      (omega (arith, length-drop len (b ∷ text), k, some)) in
      omega (arith, short, length-drop len (b ∷ text)))

take-add : (n m : ℕ) (xs : List ℕ) → take n xs ++ take m (drop n xs) ≡ take (n + m) xs
take-add n m xs =
    let within : n ≤ n + m = omega arith in
    ap (λ l. l ++ take m (drop n xs)) (sym (take-take n (n + m) xs within))
    ∙ ap (λ l. take n (take (n + m) xs) ++ l) (sym (drop-take n m xs))
    ∙ take-append-drop n (take (n + m) xs)

or-assoc : (a b c : Bool) → (a || (b || c)) ≡ ((a || b) || c)
or-assoc true b c = refl
or-assoc false b c = refl

or-false : (a : Bool) → (a || false) ≡ a
or-false true = refl
or-false false = refl

module _ (options : InlineOptions) (is_definition is_footnote : List ℕ → Bool) (text : List ℕ) where
  -- the level from a place on, by what is at its front
  at-step : (inside : Bool) (at b : ℕ) (rest : List ℕ) → drop at text ≡ b ∷ rest →
      level_at options is_definition is_footnote text inside at ≡
      front_level options is_definition is_footnote
      (λ k. level_at options is_definition is_footnote text inside (at + k))
      (λ k. level_at options is_definition is_footnote text true (at + k)) (b ∷ rest)
      (front options is_definition is_footnote inside (take at text) b rest)
  at-step inside at b rest is =
      ap
      (λ (l : List ℕ). content options is_definition is_footnote (length l) inside (take at text) l) is
      ∙ front-alike options is_definition is_footnote inside (λ k. cut inside k)
      (λ k. level_at options is_definition is_footnote text inside (at + k)) (λ k. cut true k)
      (λ k. level_at options is_definition is_footnote text true (at + k)) (b ∷ rest)
      (front options is_definition is_footnote inside (take at text) b rest)
      (front-is options is_definition is_footnote inside (take at text) b rest)
      (same inside) (same true)
      (λ k some.
      let short : length (level_at options is_definition is_footnote text true (at + k)).rest ≤
      length (drop (at + k) text) =
      rest-short options is_definition is_footnote (length (drop (at + k) text)) true (take (at + k) text)
      (drop (at + k) text)
      (omega arith) in
      let less : length (drop (at + k) text) ≡ length (b ∷ rest) - k =
      ap length (sym (drop-drop k at text)) ∙ ap (λ l. length (drop k l)) is ∙ length-drop k (b ∷ rest) in
      omega (arith, short, less))
    where
      cut : Bool → ℕ → Level
      cut deep k = content options is_definition is_footnote (length rest) deep (take at text ++ take k (b ∷ rest))
          (drop k (b ∷ rest))

      same : (deep : Bool) (k : ℕ) → 0 < k →
          content options is_definition is_footnote (length rest) deep (take at text ++ take k (b ∷ rest))
          (drop k (b ∷ rest)) ≡
          level_at options is_definition is_footnote text deep (at + k)
      same deep k some =
          let tail : drop k (b ∷ rest) ≡ drop (at + k) text = ap (drop k) (sym is) ∙ drop-drop k at text in
          let front_is : take at text ++ take k (b ∷ rest) ≡ take (at + k) text =
          ap (λ l. take at text ++ take k l) (sym is) ∙ take-add at k text in
          content-alike options is_definition is_footnote (length rest) (length (drop k (b ∷ rest))) deep
          (take at text ++ take k (b ∷ rest)) (drop k (b ∷ rest))
          (omega (arith, length-drop k (b ∷ rest), some)) (omega arith)
          ∙ ap
          (λ (l : List ℕ). content options is_definition is_footnote (length l) deep
          (take at text ++ take k (b ∷ rest)) l) tail
          ∙ ap
          (λ (l : List ℕ). content options is_definition is_footnote (length (drop (at + k) text)) deep l
          (drop (at + k) text)) front_is

  -- where nothing more is read, all that is open is text
  whole-end : (stack : List Open) (list : List Node) (links : Bool) →
      whole options is_definition is_footnote text stack list links [] ≡ list
  whole-end [] list links = refl
  whole-end (o ∷ stack) list links = refl

  -- all nodes, where the level is this
  abbrev over_level : State → Level → List Node
  over_level s level =
      whole options is_definition is_footnote text s.stack (s.list ++ items_nodes level.items) (s.links || level.links)
      level.rest

  left-at : (s : State) (level : Level) →
      level_at options is_definition is_footnote text (is_open s.stack) s.at ≡ level →
      left options is_definition is_footnote text s ≡ over_level s level
  left-at s level h = ap (over_level s) h

  moved : (s : State) (more : List Node) (items : List Item) (len : ℕ) (level : Level) →
      items_nodes items ≡ more →
      over_level s (with_items items false level) ≡ over_level (added s more len) level
  moved s more items len level h =
      ap
      (λ (l : List Node). whole options is_definition is_footnote text s.stack l (s.links || level.links) level.rest)
      (ap (λ l. s.list ++ l) (items-append items level.items)
      ∙ ap (λ l. s.list ++ (l ++ items_nodes level.items)) h
      ∙ sym (append_assoc s.list more (items_nodes level.items)))

  -- A step by what is at the front.
  step-by : (s : State) (b : ℕ) (rest : List ℕ) (f : Front) → drop s.at text ≡ b ∷ rest →
      front options is_definition is_footnote (is_open s.stack) (take s.at text) b rest ≡ f →
      left options is_definition is_footnote text s ≡
      over_level s
      (front_level options is_definition is_footnote
      (λ k. level_at options is_definition is_footnote text (is_open s.stack) (s.at + k))
      (λ k. level_at options is_definition is_footnote text true (s.at + k)) (b ∷ rest) f)
  step-by s b rest f is h =
      left-at s
      (front_level options is_definition is_footnote
      (λ k. level_at options is_definition is_footnote text (is_open s.stack) (s.at + k))
      (λ k. level_at options is_definition is_footnote text true (s.at + k)) (b ∷ rest) f)
      (at-step (is_open s.stack) s.at b rest is
      ∙ ap
      (front_level options is_definition is_footnote
      (λ k. level_at options is_definition is_footnote text (is_open s.stack) (s.at + k))
      (λ k. level_at options is_definition is_footnote text true (s.at + k)) (b ∷ rest)) h)

  pub atom-step : (s : State) (b : ℕ) (rest : List ℕ) (found : Forest) → drop s.at text ≡ b ∷ rest →
      front options is_definition is_footnote (is_open s.stack) (take s.at text) b rest ≡ is_atom found →
      left options is_definition is_footnote text (added s (nodes found) (size found)) ≡
      left options is_definition is_footnote text s
  atom-step s b rest found is h =
      sym
      (step-by s b rest (is_atom found) is h
      ∙ moved s (nodes found) (read found ∷ []) (size found)
      (level_at options is_definition is_footnote text (is_open s.stack) (s.at + size found))
      (append-nil (nodes found)))

  pub run-step : (s : State) (b : ℕ) (rest : List ℕ) (r : Run) → drop s.at text ≡ b ∷ rest →
      front options is_definition is_footnote (is_open s.stack) (take s.at text) b rest ≡ is_run r →
      left options is_definition is_footnote text (added s (node.Run r ∷ []) r.left) ≡
      left options is_definition is_footnote text s
  run-step s b rest r is h =
      sym
      (step-by s b rest (is_run r) is h
      ∙ moved s (node.Run r ∷ []) (run r ∷ []) r.left
      (level_at options is_definition is_footnote text (is_open s.stack) (s.at + r.left)) refl)

  pub text-step : (s : State) (b : ℕ) (rest : List ℕ) → drop s.at text ≡ b ∷ rest →
      front options is_definition is_footnote (is_open s.stack) (take s.at text) b rest ≡ is_text →
      left options is_definition is_footnote text (added s (node.Piece n.Data 1 ∷ []) 1) ≡
      left options is_definition is_footnote text s
  text-step s b rest is h =
      sym
      (step-by s b rest is_text is h
      ∙ moved s (node.Piece n.Data 1 ∷ []) (text_item 1 ∷ []) 1
      (level_at options is_definition is_footnote text (is_open s.stack) (s.at + 1)) refl)

  -- all nodes, from a place on
  abbrev from : List Open → List Node → Bool → ℕ → List Node
  from stack list links at =
      left options is_definition is_footnote text
      (record { list = list; stack = stack; links = links; at = at })

  same-from : (stack : List Open) (a b : List Node) (k l : Bool) (n m : ℕ) → a ≡ b → k ≡ l → n ≡ m →
      from stack a k n ≡ from stack b l m
  same-from stack a b k l n m p q r =
      ap (λ (x : List Node). from stack x k n) p ∙ ap (λ (x : Bool). from stack b x n) q
      ∙ ap (λ (x : ℕ). from stack b l x) r

  moved-with : (s : State) (items : List Item) (links : Bool) (at : ℕ) →
      over_level s
      (with_items items links (level_at options is_definition is_footnote text (is_open s.stack) at)) ≡
      from s.stack (s.list ++ items_nodes items) (s.links || links) at
  moved-with s items links at =
      let level : Level = level_at options is_definition is_footnote text (is_open s.stack) at in
      ap
      (λ (l : List Node). whole options is_definition is_footnote text s.stack l (s.links || (links || level.links))
      level.rest)
      (ap (λ l. s.list ++ l) (items-append items level.items)
      ∙ sym (append_assoc s.list (items_nodes items) (items_nodes level.items)))
      ∙ ap
      (λ (k : Bool). whole options is_definition is_footnote text s.stack
      ((s.list ++ items_nodes items) ++ items_nodes level.items) k level.rest)
      (or-assoc s.links links level.links)

  -- what a `]` leaves, by the nodes, the links, the place and what follows
  abbrev after_close : Open → List Open → List Node → Bool → ℕ → List ℕ → List Node
  after_close o stack list links at after =
      left options is_definition is_footnote text
      (closed_by o stack list links at
      (pair_at options is_definition is_footnote text o list links at after))

  close-at : (o : Open) (stack : List Open) (list : List Node) (links : Bool) (at b : ℕ) (rest : List ℕ) →
      drop at text ≡ b ∷ rest →
      front options is_definition is_footnote true (take at text) b rest ≡ closes →
      after_close o stack list links at (drop 1 (drop at text)) ≡ from (o ∷ stack) list links at
  close-at o stack list links at b rest is h =
      let place : length text - suc (length rest) ≡ at = omega (arith, ap length is, length-drop at text) in
      sym
      (step-by (record { list = list; stack = o ∷ stack; links = links; at = at }) b rest closes is h
      ∙ ap
      (λ (l : List Node). after_close o stack l (links || false) (length text - suc (length rest)) rest)
      (append-nil list)
      ∙ ap
      (λ (k : Bool). after_close o stack list k (length text - suc (length rest)) rest) (or-false links)
      ∙ ap (λ (k : ℕ). after_close o stack list links k rest) place
      ∙ ap (λ (l : List ℕ). after_close o stack list links at (drop 1 l)) (sym is))

  pub close-step : (s : State) (b : ℕ) (rest : List ℕ) (o : Open) (stack : List Open) → s.stack ≡ o ∷ stack →
      drop s.at text ≡ b ∷ rest →
      front options is_definition is_footnote true (take s.at text) b rest ≡ closes →
      after_close o stack s.list s.links s.at (drop 1 (drop s.at text)) ≡ left options is_definition is_footnote text s
  close-step s b rest o stack same is h =
      close-at o stack s.list s.links s.at b rest is h
      ∙ ap (λ (l : List Open). from l s.list s.links s.at) (sym same)

  opened-level : (s : State) (b : ℕ) (rest : List ℕ) (len : ℕ) (inner : Level) (tail : List ℕ) →
      drop s.at text ≡ b ∷ rest → 0 < len → length tail ≤ length (b ∷ rest) →
      whole options is_definition is_footnote text
      (record { at = s.at; len = len; nodes = length s.list; links = s.links } ∷ s.stack)
      ((s.list ++ node.Piece n.Data len ∷ []) ++ items_nodes inner.items) inner.links tail ≡
      over_level s
      (bracket_level options is_definition is_footnote
      (λ k. level_at options is_definition is_footnote text (is_open s.stack) (s.at + k)) (b ∷ rest) len inner tail)
  opened-level s b rest len inner [] is some short =
      let mark : nodes (over n.Data len nothing) ++ items_nodes inner.items ≡
      node.Piece n.Data len ∷ items_nodes inner.items =
      ap (λ l. l ++ items_nodes inner.items)
      (nodes-over n.Data len nothing ∙ append-nil (pieces n.Data len)
      ∙ pieces_some n.Data len (λ none. omega (arith, none, some))) in
      append_assoc s.list (node.Piece n.Data len ∷ []) (items_nodes inner.items)
      ∙ ap (λ l. s.list ++ l) (sym mark)
      ∙ sym
      (whole-end s.stack (s.list ++ (nodes (over n.Data len nothing) ++ items_nodes inner.items))
      (s.links || inner.links))
  opened-level s b rest len inner (close ∷ after) is some short =
      ap
      (λ (made : Option MadePair). left options is_definition is_footnote text
      (closed_by o s.stack list inner.links place made)) made_is
      ∙ go (e.pair options is_definition is_footnote len inner held after)
    where
      o : Open
      o = record { at = s.at; len = len; nodes = length s.list; links = s.links }

      marked : List Node
      marked = node.Piece n.Data len ∷ items_nodes inner.items

      list : List Node
      list = (s.list ++ node.Piece n.Data len ∷ []) ++ items_nodes inner.items

      place : ℕ
      place = length text - suc (length after)

      width : ℕ
      width = length (b ∷ rest) - length after

      held : List ℕ
      held = drop len (take (length (b ∷ rest) - length after - 1) (b ∷ rest))

      list-is : list ≡ s.list ++ marked
      list-is = append_assoc s.list (node.Piece n.Data len ∷ []) (items_nodes inner.items)

      mark-is : nodes (over n.Data len nothing) ≡ node.Piece n.Data len ∷ []
      mark-is =
          nodes-over n.Data len nothing ∙ append-nil (pieces n.Data len)
          ∙ pieces_some n.Data len (λ none. omega (arith, none, some))

      long : length text ≡ s.at + length (b ∷ rest)
      long = omega (arith, ap length is, length-drop s.at text)

      before : take (length s.list) list ≡ s.list
      before = ap (take (length s.list)) list-is ∙ take_at s.list marked (length s.list) refl

      between : drop 1 (drop (length s.list) list) ≡ items_nodes inner.items
      between =
          ap (λ l. drop 1 (drop (length s.list) l)) list-is
          ∙ ap (drop 1) (drop_at s.list marked (length s.list) refl)

      held-is : drop len (drop s.at (take place text)) ≡ held
      held-is =
          let sum : s.at + (length (b ∷ rest) - length after - 1) ≡ place = omega (arith, long, short) in
          ap (λ k. drop len (drop s.at (take k text))) (sym sum)
          ∙ ap (drop len) (drop-take s.at (length (b ∷ rest) - length after - 1) text)
          ∙ ap (λ l. drop len (take (length (b ∷ rest) - length after - 1) l)) is

      made_is : pair_at options is_definition is_footnote text o list inner.links place after ≡
          option_map made_pair (e.pair options is_definition is_footnote len inner held after)
      made_is =
          ap
          (λ (l : List Node). p.pair options is_definition is_footnote len l inner.links
          (drop len (drop s.at (take place text))) after) between
          ∙ ap
          (λ (l : List ℕ). p.pair options is_definition is_footnote len (items_nodes inner.items) inner.links l after)
          held-is
          ∙ sym (pair-made options is_definition is_footnote len inner held after)

      go : (q : Option e.Pair) →
          left options is_definition is_footnote text
          (closed_by o s.stack list inner.links place (option_map made_pair q)) ≡
          over_level s
          (elim q as (λ (_ : Option e.Pair). Level) [
            | None ↦
                with_items (text_item len ∷ inner.items ++ text_item 1 ∷ []) inner.links
                (level_at options is_definition is_footnote text (is_open s.stack) (s.at + width))
            | Some found ↦
                with_items (read found.forest ∷ []) (inner.links || found.is_link)
                (level_at options is_definition is_footnote text (is_open s.stack) (s.at + (width + found.taken)))
          ])
      go None =
          same-from s.stack (list ++ node.Piece n.Data 1 ∷ [])
          (s.list ++ items_nodes (text_item len ∷ inner.items ++ text_item 1 ∷ []))
          (s.links || (inner.links || false)) (s.links || inner.links) (place + 1 + 0) (s.at + width)
          (ap (λ l. l ++ node.Piece n.Data 1 ∷ []) list-is
          ∙ append_assoc s.list marked (node.Piece n.Data 1 ∷ [])
          ∙ ap (λ l. s.list ++ l)
          (ap (λ l. node.Piece n.Data len ∷ l) (sym (items-append inner.items (text_item 1 ∷ [])))
          ∙ ap (λ l. l ++ items_nodes (inner.items ++ text_item 1 ∷ [])) (sym mark-is)))
          (ap (λ k. s.links || k) (or-false inner.links)) (omega (arith, long, short))
          ∙ sym
          (moved-with s (text_item len ∷ inner.items ++ text_item 1 ∷ []) inner.links (s.at + width))
      go (Some found) =
          same-from s.stack (take (length s.list) list ++ nodes found.forest)
          (s.list ++ items_nodes (read found.forest ∷ []))
          (s.links || (inner.links || found.is_link)) (s.links || (inner.links || found.is_link))
          (place + 1 + found.taken) (s.at + (width + found.taken))
          (ap (λ l. l ++ nodes found.forest) before ∙ ap (λ l. s.list ++ l) (sym (append-nil (nodes found.forest))))
          refl (omega (arith, long, short))
          ∙ sym
          (moved-with s (read found.forest ∷ []) (inner.links || found.is_link) (s.at + (width + found.taken)))

  pub open-step : (s : State) (b : ℕ) (rest : List ℕ) (len : ℕ) → drop s.at text ≡ b ∷ rest →
      front options is_definition is_footnote (is_open s.stack) (take s.at text) b rest ≡ opens len →
      left options is_definition is_footnote text (opened s len) ≡ left options is_definition is_footnote text s
  open-step s b rest len is h =
      let inner : Level = level_at options is_definition is_footnote text true (s.at + len) in
      let bounds : FrontIs (is_open s.stack) (opens len) =
      subst (λ (f : Front). FrontIs (is_open s.stack) f) h
      (front-is options is_definition is_footnote (is_open s.stack) (take s.at text) b rest) in
      let less : length (drop (s.at + len) text) ≡ length (b ∷ rest) - len =
      ap length (sym (drop-drop len s.at text)) ∙ ap (λ l. length (drop len l)) is ∙ length-drop len (b ∷ rest) in
      let short : length inner.rest ≤ length (drop (s.at + len) text) =
      rest-short options is_definition is_footnote (length (drop (s.at + len) text)) true (take (s.at + len) text)
      (drop (s.at + len) text) (omega arith) in
      opened-level s b rest len inner inner.rest is bounds (omega (arith, less, short))
      ∙ sym (step-by s b rest (opens len) is h)

  -- how far a step goes
  further : (inside : Bool) (before : List ℕ) (b : ℕ) (rest : List ℕ) (f : Front) →
      front options is_definition is_footnote inside before b rest ≡ f → FrontIs inside f
  further inside before b rest f h =
      subst (λ (g : Front). FrontIs inside g) h
      (front-is options is_definition is_footnote inside before b rest)

  pub atom-further : (inside : Bool) (before : List ℕ) (b : ℕ) (rest : List ℕ) (found : Forest) →
      front options is_definition is_footnote inside before b rest ≡ is_atom found → 0 < size found
  atom-further inside before b rest found h = further inside before b rest (is_atom found) h

  pub run-further : (inside : Bool) (before : List ℕ) (b : ℕ) (rest : List ℕ) (r : Run) →
      front options is_definition is_footnote inside before b rest ≡ is_run r → 0 < r.left
  run-further inside before b rest r h = further inside before b rest (is_run r) h

  pub opens-further : (inside : Bool) (before : List ℕ) (b : ℕ) (rest : List ℕ) (len : ℕ) →
      front options is_definition is_footnote inside before b rest ≡ opens len → 0 < len
  opens-further inside before b rest len h = further inside before b rest (opens len) h

  -- where the text ends
  pub left-end : (s : State) → length text ≤ s.at → left options is_definition is_footnote text s ≡ s.list
  left-end s h =
      let none : drop s.at text ≡ [] = drop_all s.at text h in
      left-at s (record { items = []; links = false; rest = [] })
      (ap
      (λ (l : List ℕ). content options is_definition is_footnote (length l) (is_open s.stack) (take s.at text) l) none)
      ∙ whole-end s.stack (s.list ++ []) (s.links || false) ∙ append-nil s.list
