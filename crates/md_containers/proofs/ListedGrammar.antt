-- Events with lists around their items keep the grammar of events, if they kept it with items in the places of lists.
--
-- What may still come in each open part is followed side by side. With lists it is the same, but for the lists that are
-- open: after an item more endings and items of its list may come.
use Rattle.std.proofs.Common.{◌≡◌, ℕ, Bool, true, false, cond, List, [], ◌∷◌, ◌++◌, refl}
use Rattle.std.proofs.Common.{ap, sym, ◌∙◌, subst, ◌⊎◌, inl, inr}
use Rattle.std.specs.Prelude.{Option, Some, ◌||◌, if◌then◌else◌}
use Rattle.std.specs.List.{list_any}
use Rattle.md_engine.specs.declared.event.Event.{Event}
use Rattle.md_engine.specs.declared.event.Kind.{Kind}
use Rattle.md_engine.specs.declared.event.Kind.TheVariants.{Enter, Exit}
use Rattle.md_engine.specs.declared.event.Link.{Link}
use Rattle.md_engine.specs.declared.event.Name.{Name}
use Rattle.md_engine.specs.declared.event.Name.TheVariants as n
use Rattle.md_engine.specs.declared.event.Point.{Point}
use Rattle.md_containers.specs.ItemsHeld.{HoldsItems, ItemsHeld}
use Rattle.md_containers.specs.Listed.{Place, is_continued, is_item, list_end, list_name, listed, listed_from}
use Rattle.md_containers.specs.Listed.{marker_ahead, next_by, next_item}
use Rattle.md_containers.specs.Unlisted.{in_place, keeps_unlisted, unlisted_after, unlisted_left}
use Rattle.md_containers.proofs.ListedBlockSteps.{is_continued-some}
use Rattle.md_containers.proofs.ListedKept.{by-turn}
use Rattle.md_containers.proofs.ListedLemmas.{passes-given}
use Rattle.md_containers.proofs.ListedNests.{event, pass-next}
use Rattle.md_containers.proofs.ListedKept.{by-list}
use Rattle.md_containers.proofs.TamedLemmas.{AtBoth, AtFrontmatter, AtLine, AtMark, AfterBlock, IsTame, ListsWell}
use Rattle.md_containers.proofs.TamedLemmas.{is_plain, tame-following, tame-inside, tame-item, tame-lists}
use Rattle.md_events.specs.Events.Blocks.{is_block}
use Rattle.md_events.specs.Events.Grammar.{Expression, Many, Never, Then, following, after_block, blocks, inside}
use Rattle.md_events.specs.Events.Grammar.{is_whole, keeps_grammar, left_of, line_break, may_end, one, prefixes, some}
use Rattle.md_events.specs.Events.Grammar.{texts}
use Rattle.md_events.specs.Events.Nested.{Matches, Nested, enter, exit}
use Rattle.md_events.specs.Events.Spelled.{role}

-- What may come in a list: after an item, and after an ending that follows it.
abbrev more_items : Expression
more_items = Many (Then (some line_break) (one n.ListItem))

abbrev in_list : Bool → Expression
in_list false = more_items
in_list true = Then (Then (Then prefixes (Many line_break)) (one n.ListItem)) more_items

-- what may come there in the container around it
abbrev in_container : Bool → Expression
in_container false = after_block
in_container true = blocks

-- Nothing more may come.

abbrev HasNever : List Expression → Type 0
HasNever [] = ⊥
HasNever (x ∷ xs) = (x ≡ Never) ⊎ HasNever xs

-- a part in which nothing may come cannot end, and so no part around it does
abbrev IsDead : List Expression → Type 0
IsDead stack = (stack ≡ []) ⊎ HasNever stack

dead-exit : (x : Expression) (xs : List Expression) → HasNever (x ∷ xs) → IsDead (cond (may_end x) xs [])
dead-exit x xs (inl e) = inl (ap (λ (y : Expression). cond (may_end y) xs []) e)
dead-exit x xs (inr h) = go (may_end x)
  where
    go : (b : Bool) → IsDead (cond b xs [])
    go true = inr h
    go false = inl refl

dead-following : (text : Expression) (kind : Kind) (name : Name) (stack : List Expression) → IsDead stack →
    IsDead (unlisted_after text stack kind name)
dead-following text kind name [] h = inl refl
dead-following text kind name (x ∷ xs) (inl e) = absurd (cc)
dead-following text Enter name (x ∷ xs) (inr (inl e)) = inr (inr (inl (ap (following (in_place name)) e)))
dead-following text Enter name (x ∷ xs) (inr (inr h)) = inr (inr (inr h))
dead-following text Exit name (x ∷ xs) (inr h) = dead-exit x xs h

dead-whole : (stack : List Expression) → IsDead stack → is_whole stack ≡ false
dead-whole [] h = refl
dead-whole (x ∷ []) (inl e) = absurd (cc)
dead-whole (x ∷ []) (inr (inl e)) = ap may_end e
dead-whole (x ∷ []) (inr (inr h)) = absurd h
dead-whole (x ∷ y ∷ ys) h = refl

dead-left : (text : Expression) (es : List Event) (stack : List Expression) → IsDead stack →
    is_whole (unlisted_left text stack es) ≡ false
dead-left text [] stack h = dead-whole stack h
dead-left text (e ∷ es) stack h =
    dead-left text es (unlisted_after text stack e.kind e.name) (dead-following text e.kind e.name stack h)

dead-fails : {X : Type 0} (text : Expression) (es : List Event) (stack : List Expression) → IsDead stack →
    is_whole (unlisted_left text stack es) ≡ true → X
dead-fails text es stack h whole = absurd (let no : true ≡ false = sym whole ∙ dead-left text es stack h in cc)

-- What is open.

-- A part that is open: a part with this name, and what may still come in the part around it; or an item with the marker
-- of its list, after which its container continues.
data Frame : Type 0 where
  InPart : Name → Expression → Frame
  InItem : ℕ → Frame

abbrev names_in : List Frame → List Name
names_in [] = []
names_in (InPart name x ∷ fs) = name ∷ names_in fs
names_in (InItem m ∷ fs) = n.ListItem ∷ names_in fs

abbrev markers_in : List Frame → List ℕ
markers_in [] = []
markers_in (InPart name x ∷ fs) = markers_in fs
markers_in (InItem m ∷ fs) = m ∷ markers_in fs

-- what may come around what is innermost, without lists and with them
abbrev around_without : List Frame → List Expression
around_without [] = []
around_without (InPart name x ∷ fs) = x ∷ around_without fs
around_without (InItem m ∷ fs) = after_block ∷ around_without fs

abbrev around_with : List Frame → List Expression
around_with [] = []
around_with (InPart name x ∷ fs) = x ∷ around_with fs
around_with (InItem m ∷ fs) = more_items ∷ after_block ∷ around_with fs

abbrev AreFrames : List Frame → Type 0
AreFrames [] = Unit {0}
AreFrames (InPart name x ∷ fs) = IsTame x × (is_item (role name) ≡ false) × AreFrames fs
AreFrames (InItem m ∷ fs) = HoldsItems (names_in fs) × AreFrames fs

-- a part after the last item of a list that continues, and what may still come in it
record Later : Type 0 where
  name : Name
  left : Expression

abbrev later_names : List Later → List Name
later_names [] = []
later_names (l ∷ ls) = l.name ∷ later_names ls

abbrev later_left : List Later → List Expression
later_left [] = []
later_left (l ∷ ls) = l.left ∷ later_left ls

abbrev NoBlocks : List Later → Type 0
NoBlocks [] = Unit {0}
NoBlocks (l ∷ ls) = (is_block (role l.name) ≡ false) × NoBlocks ls

-- No list continues here, and this may come in what is innermost; or a list with this marker does, after an ending or
-- not, with these parts open after its last item.
data Now : Type 0 where
  Free : Expression → List Frame → Now
  Within : ℕ → Bool → List Later → List Frame → Now

abbrev names_at : Now → List Name
names_at (Free x fs) = names_in fs
names_at (Within m after ls fs) = later_names ls ++ names_in fs

abbrev left_without : Now → List Expression
left_without (Free x fs) = x ∷ around_without fs
left_without (Within m after ls fs) = later_left ls ++ in_container after ∷ around_without fs

abbrev left_with : Now → List Expression
left_with (Free x fs) = x ∷ around_with fs
left_with (Within m after ls fs) = later_left ls ++ in_list after ∷ after_block ∷ around_with fs

abbrev place_at : Now → Place
place_at (Free x fs) = record { within = false; markers = markers_in fs }
place_at (Within m after ls fs) = record { within = true; markers = markers_in fs }

abbrev Good : Now → Option ℕ → Type 0
Good (Free x fs) next = IsTame x × AreFrames fs
Good (Within m after ls fs) next = AreFrames fs × HoldsItems (names_in fs) × NoBlocks ls × (next ≡ Some m)

module _ (text : Expression) (bytes : List ℕ) where
  -- whether all is whole without lists, and with them
  abbrev Whole : Now → List Event → Type 0
  Whole now es = is_whole (unlisted_left text (left_without now) es) ≡ true

  abbrev WholeWith : Now → List Event → Type 0
  WholeWith now es = is_whole (left_of text (left_with now) es) ≡ true

  abbrev Keeps : List Event → Type 0
  Keeps es =
      (now : Now) → Good now (next_item bytes es) → Matches (names_at now) es → ItemsHeld (names_at now) es →
      Whole now es → WholeWith now (listed_from bytes (place_at now) es)

  -- An item begins.
  begin-free : (p : Point) (link : Option Link) (es : List Event) (x : Expression) (fs : List Frame) → Keeps es →
      IsTame x → AreFrames fs → Matches (names_in fs) (event Enter n.ListItem p link ∷ es) →
      ItemsHeld (names_in fs) (event Enter n.ListItem p link ∷ es) →
      Whole (Free x fs) (event Enter n.ListItem p link ∷ es) →
      WholeWith (Free x fs) (listed_from bytes (place_at (Free x fs)) (event Enter n.ListItem p link ∷ es))
  begin-free p link es x fs keeps tame frames matches held whole =
      let well : ListsWell x = tame-lists x tame in go well.0 well.1
    where
      a : ℕ
      a = marker_ahead bytes es

      inner : List Event
      inner = listed_from bytes (record { within = false; markers = a ∷ markers_in fs }) es

      go : (following n.ListOrdered x ≡ after_block) ⊎ (following n.ListOrdered x ≡ Never) →
          following n.ListUnordered x ≡ following n.ListOrdered x →
          WholeWith (Free x fs) (enter (list_name a) p ∷ event Enter n.ListItem p link ∷ inner)
      go (inr e) same =
          dead-fails text es (inside text n.ListItem ∷ following n.ListOrdered x ∷ around_without fs)
          (inr (inr (inl e))) whole
      go (inl e) same =
          let k : WholeWith (Free (inside text n.ListItem) (InItem a ∷ fs)) inner =
          keeps (Free (inside text n.ListItem) (InItem a ∷ fs)) (tame-item, (held.0, frames)) matches.1
          held.1
          (subst
          (λ (y : Expression).
          is_whole (unlisted_left text (inside text n.ListItem ∷ y ∷ around_without fs) es) ≡ true) e whole) in
          by-list
          (λ (name : Name). WholeWith (Free x fs) (enter name p ∷ event Enter n.ListItem p link ∷ inner))
          (subst
          (λ (y : Expression).
          is_whole (left_of text (inside text n.ListItem ∷ more_items ∷ y ∷ around_with fs) inner) ≡ true) (sym e) k)
          (subst
          (λ (y : Expression).
          is_whole (left_of text (inside text n.ListItem ∷ more_items ∷ y ∷ around_with fs) inner) ≡ true)
          (sym (same ∙ e)) k) a

  begin-within : (p : Point) (link : Option Link) (es : List Event) (m : ℕ) (after : Bool) (ls : List Later)
      (fs : List Frame) → Keeps es → Good (Within m after ls fs) (Some (marker_ahead bytes es)) →
      Matches (names_at (Within m after ls fs)) (event Enter n.ListItem p link ∷ es) →
      ItemsHeld (names_at (Within m after ls fs)) (event Enter n.ListItem p link ∷ es) →
      Whole (Within m after ls fs) (event Enter n.ListItem p link ∷ es) →
      WholeWith (Within m after ls fs)
      (listed_from bytes (place_at (Within m after ls fs)) (event Enter n.ListItem p link ∷ es))
  begin-within p link es m after (l ∷ ls) fs keeps good matches held whole =
      absurd (let no : true ≡ false = sym held.0 ∙ good.2.0 in cc)
  begin-within p link es m false [] fs keeps good matches held whole =
      dead-fails text es (inside text n.ListItem ∷ Never ∷ around_without fs) (inr (inr (inl refl))) whole
  begin-within p link es m true [] fs keeps good matches held whole =
      keeps (Free (inside text n.ListItem) (InItem (marker_ahead bytes es) ∷ fs))
      (tame-item, (good.1, good.0)) matches.1 held.1 whole

  -- An item ends.
  end-item : (p : Point) (link : Option Link) (es : List Event) (x : Expression) (m : ℕ) (fs : List Frame) →
      Keeps es → HoldsItems (names_in fs) → AreFrames fs → Matches (names_in fs) es → ItemsHeld (names_in fs) es →
      Whole (Free x (InItem m ∷ fs)) (event Exit n.ListItem p link ∷ es) →
      WholeWith (Free x (InItem m ∷ fs))
      (listed_from bytes (place_at (Free x (InItem m ∷ fs))) (event Exit n.ListItem p link ∷ es))
  end-item p link es x m fs keeps holds frames matches held whole = go (may_end x) whole
    where
      Of : Bool → Type 0
      Of on =
          is_whole
          (left_of text (more_items ∷ after_block ∷ around_with fs)
          ((if on then [] else exit (list_name m) p ∷ [])
          ++ listed_from bytes (record { within = on; markers = markers_in fs }) es)) ≡ true

      by : is_whole (unlisted_left text (after_block ∷ around_without fs) es) ≡ true → (on : Bool) →
          is_continued m (next_item bytes es) ≡ on → Of on
      by whole true h =
          keeps (Within m false [] fs) (frames, holds, tt, is_continued-some m (next_item bytes es) h)
          matches held whole
      by whole false h = keeps (Free after_block fs) (inl (AfterBlock, refl), frames) matches held whole

      go : (b : Bool) → is_whole (unlisted_left text (cond b (after_block ∷ around_without fs) []) es) ≡ true →
          is_whole
          (left_of text (cond b (more_items ∷ after_block ∷ around_with fs) [])
          (list_end (m ∷ markers_in fs) (next_item bytes es) p
          ++ listed_from bytes (record { within = is_continued m (next_item bytes es); markers = markers_in fs }) es))
          ≡ true
      go true whole = by whole (is_continued m (next_item bytes es)) refl
      go false whole = dead-fails text es [] (inl refl) whole

  end-free : (p : Point) (link : Option Link) (es : List Event) (x : Expression) (fs : List Frame) → Keeps es →
      AreFrames fs → Matches (names_in fs) (event Exit n.ListItem p link ∷ es) →
      ItemsHeld (names_in fs) (event Exit n.ListItem p link ∷ es) →
      Whole (Free x fs) (event Exit n.ListItem p link ∷ es) →
      WholeWith (Free x fs) (listed_from bytes (place_at (Free x fs)) (event Exit n.ListItem p link ∷ es))
  end-free p link es x [] keeps frames matches held whole = absurd matches.0
  end-free p link es x (InItem m ∷ fs) keeps frames matches held whole =
      end-item p link es x m fs keeps frames.0 frames.1 matches.1 held.1 whole
  end-free p link es x (InPart name y ∷ fs) keeps frames matches held whole =
      absurd (let no : true ≡ false = ap (λ (x : Name). is_item (role x)) (sym matches.0) ∙ frames.1 in cc)

  -- An event that passes.

  -- a list or an item in the place of a list may not come
  pass-dead : (es : List Event) (name : Name) (x : Expression) (xs : List Expression) → IsTame x →
      in_place name ≡ n.ListItem →
      {X : Type 0} → is_whole (unlisted_left text (inside text name ∷ following (in_place name) x ∷ xs) es) ≡ true → X
  pass-dead es name x xs tame e whole =
      let well : ListsWell x = tame-lists x tame in
      dead-fails text es (inside text name ∷ following (in_place name) x ∷ xs)
      (inr (inr (inl (ap (λ (y : Name). following y x) e ∙ well.2)))) whole

  pass-enter : (plain : is_plain text ≡ true) (name : Name) (p : Point) (link : Option Link) (es : List Event)
      (x : Expression) (fs : List Frame) → is_item (role name) ≡ false → Keeps es → IsTame x → AreFrames fs →
      Matches (names_in fs) (event Enter name p link ∷ es) → ItemsHeld (names_in fs) (event Enter name p link ∷ es) →
      Whole (Free x fs) (event Enter name p link ∷ es) →
      WholeWith (Free x fs) (event Enter name p link ∷ listed_from bytes (place_at (Free x fs)) es)
  pass-enter plain name p link es x fs i keeps tame frames matches held whole =
      go (tame-inside text plain name) (placed name i)
    where
      placed : (name : Name) → is_item (role name) ≡ false →
          (in_place name ≡ name) ⊎ (in_place name ≡ n.ListItem)
      placed n.ListItem i = absurd (cc)
      placed n.ListOrdered i = inr refl
      placed n.ListUnordered i = inr refl
      placed _ i = inl refl

      go : IsTame (inside text name) ⊎ (in_place name ≡ n.ListItem) →
          (in_place name ≡ name) ⊎ (in_place name ≡ n.ListItem) →
          WholeWith (Free x fs) (event Enter name p link ∷ listed_from bytes (place_at (Free x fs)) es)
      go (inr e) same = pass-dead es name x (around_without fs) tame e whole
      go (inl inner) (inr e) = pass-dead es name x (around_without fs) tame e whole
      go (inl inner) (inl e) =
          keeps (Free (inside text name) (InPart name (following name x) ∷ fs))
          (inner, (tame-following name x tame, i, frames)) matches.1 held.1
          (subst
          (λ (y : Name).
          is_whole (unlisted_left text (inside text name ∷ following y x ∷ around_without fs) es) ≡ true) e whole)

  pass-exit : (name : Name) (p : Point) (link : Option Link) (es : List Event) (x : Expression) (fs : List Frame) →
      is_item (role name) ≡ false → Keeps es → AreFrames fs →
      Matches (names_in fs) (event Exit name p link ∷ es) → ItemsHeld (names_in fs) (event Exit name p link ∷ es) →
      Whole (Free x fs) (event Exit name p link ∷ es) →
      WholeWith (Free x fs) (event Exit name p link ∷ listed_from bytes (place_at (Free x fs)) es)
  pass-exit name p link es x [] i keeps frames matches held whole = absurd matches.0
  pass-exit name p link es x (InItem m ∷ fs) i keeps frames matches held whole =
      absurd (let no : true ≡ false = ap (λ (x : Name). is_item (role x)) matches.0 ∙ i in cc)
  pass-exit name p link es x (InPart other y ∷ fs) i keeps frames matches held whole = go (may_end x) whole
    where
      go : (b : Bool) → is_whole (unlisted_left text (cond b (y ∷ around_without fs) []) es) ≡ true →
          is_whole
          (left_of text (cond b (y ∷ around_with fs) [])
          (listed_from bytes (place_at (Free x (InPart other y ∷ fs))) es)) ≡ true
      go true whole = keeps (Free y fs) (frames.0, frames.2) matches.1 held.1 whole
      go false whole = dead-fails text es [] (inl refl) whole

  -- after an item of a list that continues
  later-enter : (name : Name) (p : Point) (link : Option Link) (es : List Event) (m : ℕ) (after : Bool)
      (ls : List Later) (fs : List Frame) → is_block (role name) ≡ false → Keeps es →
      Good (Within m after ls fs) (next_item bytes es) →
      Matches (names_at (Within m after ls fs)) (event Enter name p link ∷ es) →
      ItemsHeld (names_at (Within m after ls fs)) (event Enter name p link ∷ es) →
      Whole (Within m after ls fs) (event Enter name p link ∷ es) →
      WholeWith (Within m after ls fs)
      (event Enter name p link ∷ listed_from bytes (place_at (Within m after ls fs)) es)
  later-enter name p link es m after (l ∷ ls) fs b keeps good matches held whole =
      keeps
      (Within m after
      ((record { name = name; left = inside text name }) ∷
      (record { name = l.name; left = following name l.left }) ∷ ls)
      fs)
      (good.0, good.1, (b, good.2), good.3) matches.1 held.1
      (subst
      (λ (y : Name).
      is_whole
      (unlisted_left text
      (inside text name ∷ following y l.left ∷ later_left ls ++ in_container after ∷ around_without fs) es) ≡ true)
      (free-place name b) whole)
    where
      free-place : (name : Name) → is_block (role name) ≡ false → in_place name ≡ name
      free-place n.ListItem b = absurd (cc)
      free-place n.ListOrdered b = absurd (cc)
      free-place n.ListUnordered b = absurd (cc)
      free-place _ b = refl
  later-enter name p link es m after [] fs b keeps good matches held whole = go (proceeds name after b)
    where
      -- where this may come after an item, it may come in its list and around it
      Proceeds : Name → Bool → Type 0
      Proceeds name after =
          (following (in_place name) (in_container after) ≡ Never)
          ⊎ ((t : Bool) × (following (in_place name) (in_container after) ≡ in_container t)
          × (following name (in_list after) ≡ in_list t))

      to-line : (name : Name) (after : Bool) → following (in_place name) (in_container after) ≡ in_container true →
          following name (in_list after) ≡ in_list true → Proceeds name after
      to-line name after e h = inr (true, e, h)

      proceeds : (name : Name) (after : Bool) → is_block (role name) ≡ false → Proceeds name after
      proceeds n.LineEnding false b = inr (true, refl, refl)
      proceeds _ false b = first_of (search inl, search to-line, cc)
      proceeds n.LineEnding true b = inr (true, refl, refl)
      proceeds _ true b = first_of (search inl, search to-line, cc)

      rest : List Event
      rest = listed_from bytes (place_at (Within m after [] fs)) es

      go : Proceeds name after → WholeWith (Within m after [] fs) (event Enter name p link ∷ rest)
      go (inl e) =
          dead-fails text es (inside text name ∷ following (in_place name) (in_container after) ∷ around_without fs)
          (inr (inr (inl e))) whole
      go (inr h) =
          subst
          (λ (y : Expression).
          is_whole (left_of text (inside text name ∷ y ∷ after_block ∷ around_with fs) rest) ≡ true) (sym h.2)
          (keeps (Within m h.0 ((record { name = name; left = inside text name }) ∷ []) fs)
          (good.0, good.1, (b, tt), good.3) matches.1 held.1
          (subst
          (λ (y : Expression).
          is_whole (unlisted_left text (inside text name ∷ y ∷ around_without fs) es) ≡ true) h.1 whole))

  later-exit : (name : Name) (p : Point) (link : Option Link) (es : List Event) (m : ℕ) (after : Bool)
      (ls : List Later) (fs : List Frame) → is_block (role name) ≡ false → Keeps es →
      Good (Within m after ls fs) (next_item bytes es) →
      Matches (names_at (Within m after ls fs)) (event Exit name p link ∷ es) →
      ItemsHeld (names_at (Within m after ls fs)) (event Exit name p link ∷ es) →
      Whole (Within m after ls fs) (event Exit name p link ∷ es) →
      WholeWith (Within m after ls fs)
      (event Exit name p link ∷ listed_from bytes (place_at (Within m after ls fs)) es)
  later-exit name p link es m after (l ∷ ls) fs b keeps good matches held whole = go (may_end l.left) whole
    where
      go : (x : Bool) →
          is_whole (unlisted_left text (cond x (left_without (Within m after ls fs)) []) es) ≡ true →
          is_whole
          (left_of text (cond x (left_with (Within m after ls fs)) [])
          (listed_from bytes (place_at (Within m after ls fs)) es)) ≡ true
      go true whole =
          keeps (Within m after ls fs) (good.0, good.1, good.2.1, good.3) matches.1 held.1 whole
      go false whole = dead-fails text es [] (inl refl) whole
  later-exit name p link es m after [] [] b keeps good matches held whole = absurd matches.0
  later-exit name p link es m after [] (InItem k ∷ fs) b keeps good matches held whole =
      absurd (let no : true ≡ false = ap (λ (x : Name). is_block (role x)) matches.0 ∙ b in cc)
  later-exit name p link es m after [] (InPart other x ∷ fs) b keeps good matches held whole =
      absurd
      (let no : true ≡ false = sym good.1 ∙ ap (λ (x : Name). is_block (role x)) matches.0 ∙ b in cc)

  -- All events.

  begins : (es : List Event) (p : Point) (link : Option Link) → Keeps es → Keeps (event Enter n.ListItem p link ∷ es)
  begins es p link keeps (Free x fs) good matches held whole =
      begin-free p link es x fs keeps good.0 good.1 matches held whole
  begins es p link keeps (Within m after ls fs) good matches held whole =
      begin-within p link es m after ls fs keeps good matches held whole

  ends : (es : List Event) (p : Point) (link : Option Link) → Keeps es → Keeps (event Exit n.ListItem p link ∷ es)
  ends es p link keeps (Free x fs) good matches held whole =
      end-free p link es x fs keeps good.1 matches held whole
  ends es p link keeps (Within m after ls fs) good matches held whole = absurd (let no = good.3 in cc)

  passes : is_plain text ≡ true → (es : List Event) (p : Point) (link : Option Link) → Keeps es →
      (kind : Kind) (name : Name) → is_item (role name) ≡ false → Keeps (event kind name p link ∷ es)
  passes plain es p link keeps kind name i now good matches held whole =
      subst (WholeWith now) (sym (passes-given bytes (place_at now) (event kind name p link) es i))
      (go kind now good matches held whole)
    where
      go : (kind : Kind) (now : Now) →
          Good now (next_by kind (role name) (marker_ahead bytes es) (next_item bytes es)) →
          Matches (names_at now) (event kind name p link ∷ es) →
          ItemsHeld (names_at now) (event kind name p link ∷ es) →
          Whole now (event kind name p link ∷ es) →
          WholeWith now (event kind name p link ∷ listed_from bytes (place_at now) es)
      go Enter (Free x fs) good matches held whole =
          pass-enter plain name p link es x fs i keeps good.0 good.1 matches held whole
      go Exit (Free x fs) good matches held whole =
          pass-exit name p link es x fs i keeps good.1 matches held whole
      go Enter (Within m after ls fs) good matches held whole =
          let next = pass-next Enter name (marker_ahead bytes es) m (next_item bytes es) i good.3 in
          later-enter name p link es m after ls fs next.0 keeps (good.0, good.1, good.2, next.1) matches held whole
      go Exit (Within m after ls fs) good matches held whole =
          let next = pass-next Exit name (marker_ahead bytes es) m (next_item bytes es) i good.3 in
          later-exit name p link es m after ls fs next.0 keeps (good.0, good.1, good.2, next.1) matches held whole

  keeps-all : is_plain text ≡ true → (es : List Event) → Keeps es
  keeps-all plain [] (Free x []) good matches held whole = whole
  keeps-all plain [] (Free x (InPart name y ∷ fs)) good matches held whole = absurd (cc)
  keeps-all plain [] (Free x (InItem m ∷ fs)) good matches held whole = absurd (cc)
  keeps-all plain [] (Within m after ls fs) good matches held whole = absurd (let no = good.3 in cc)
  keeps-all plain (e ∷ es) now good matches held whole =
      by-turn (λ (kind : Kind) (name : Name). Keeps (event kind name e.point e.link ∷ es))
      (begins es e.point e.link (keeps-all plain es)) (ends es e.point e.link (keeps-all plain es))
      (passes plain es e.point e.link (keeps-all plain es)) e.kind e.name now good matches held whole

abbrev AreTame : List Expression → Type 0
AreTame [] = Unit {0}
AreTame (x ∷ xs) = IsTame x × AreTame xs

any-tame : (P Q : Expression → Bool) → ((x : Expression) → IsTame x → P x ≡ true → Q x ≡ true) →
    (xs : List Expression) → AreTame xs → list_any P xs ≡ true → list_any Q xs ≡ true
any-tame P Q so [] tame h = h
any-tame P Q so (x ∷ xs) tame h = go (P x) (so x tame.0) (any-tame P Q so xs tame.1) h
  where
    go : (b : Bool) → (b ≡ true → Q x ≡ true) → (list_any P xs ≡ true → list_any Q xs ≡ true) →
        (b || list_any P xs) ≡ true → (Q x || list_any Q xs) ≡ true
    go true k l h = ap (λ (c : Bool). c || list_any Q xs) (k refl)
    go false k l h = ap (λ (c : Bool). Q x || c) (l h) ∙ or-true (Q x)
      where
        or-true : (c : Bool) → (c || true) ≡ true
        or-true true = refl
        or-true false = refl

-- Events with lists around their items keep the grammar, if they kept it with items in the places of lists, they nest,
-- and items begin directly in blocks.
pub listed-grammar : (text : Expression) → is_plain text ≡ true → (bytes : List ℕ) (events : List Event) →
    Nested events → ItemsHeld [] events → keeps_unlisted text events ≡ true →
    keeps_grammar text (listed bytes events) ≡ true
unfolding keeps_unlisted keeps_grammar
listed-grammar text plain bytes events nested held keeps =
    any-tame (λ (x : Expression). is_whole (unlisted_left text (x ∷ []) events))
    (λ (x : Expression). is_whole (left_of text (x ∷ []) (listed bytes events)))
    (λ x tame whole.
    keeps-all text bytes plain events (Free x []) (tame, tt) nested.balanced.matches held whole)
    texts
    (inl (AtLine, refl), (inl (AtMark, refl), (inl (AtFrontmatter, refl), (inl (AtBoth, refl), tt)))) keeps
