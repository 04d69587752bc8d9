-- Where one is in a text part, after each event: the grammar fixes it. In a text part are chunks, whitespace, and
-- container prefixes with their markers and whitespace.
use Rattle.std.proofs.Common.{◌≡◌, ℕ, get_or, Bool, true, false, not, ◌&&◌, ◌||◌, List, [], ◌∷◌, refl, subst}
use Rattle.std.specs.Prelude.{Option, Some, None}
use Rattle.std.specs.List.{list_all}
use Rattle.std.proofs.lemmas.Bool.{and_from, and_parts}
use Rattle.md_engine.specs.declared.event.Kind.{Kind}
use Rattle.md_engine.specs.declared.event.Kind.TheVariants.{Enter, Exit}
use Rattle.md_engine.specs.declared.event.Name.{Name}
use Rattle.md_engine.specs.declared.event.Name.TheVariants as n
use Rattle.md_events.specs.declared.inline.PartKind.{PartKind}
use Rattle.md_events.specs.declared.inline.PartKind.TheVariants as k
use Rattle.md_events.specs.Events.Grammar.{Expression, following, inside, unread_text}
use Rattle.md_events.specs.Events.Prefix.{is_prefix}
use Rattle.md_events.specs.Events.Spelled.{AsCell, AsHeading, AsParagraph, IsPrefix, IsQuiet, IsQuoteMarker}
use Rattle.md_events.specs.Events.Spelled.{Role, TextRole, role}
use Rattle.md_events.specs.Events.Tiles.{is_data, is_part, is_space_or_tab, part_kind}
use Rattle.proof_inlines.proofs.Checks.{each-of, implied}
use Rattle.proof_inlines.proofs.GrammarWalk.{Comes, Keeps, Machine, SameOutside}
use Rattle.proof_inlines.proofs.WordLemmas.{all-comes, all-following, all-true, all_names, is_never}

-- What a part is to a text part.
pub data PartSort : Type 0 where
  TextPart : PartSort
  ChunkPiece : PartSort
  WhitePiece : PartSort
  PrefixPart : PartSort
  MarkerPiece : PartSort
  -- and the document
  Elsewhere : PartSort

abbrev pub sort_by : Option PartKind → PartSort
sort_by None = Elsewhere
sort_by (Some k.Text) = TextPart
sort_by (Some k.String) = Elsewhere

abbrev pub part_sort : Name → PartSort
part_sort n.Data = ChunkPiece
part_sort n.SpaceOrTab = WhitePiece
part_sort n.BlockQuotePrefix = PrefixPart
part_sort n.BlockQuoteMarker = MarkerPiece
part_sort name = sort_by (part_kind name)

abbrev may_hold : PartSort → PartSort → Bool
may_hold Elsewhere inner = true
may_hold TextPart ChunkPiece = true
may_hold TextPart WhitePiece = true
may_hold TextPart PrefixPart = true
may_hold PrefixPart WhitePiece = true
may_hold PrefixPart MarkerPiece = true
may_hold _ _ = false

-- Where one is.
pub data Phase : Type 0 where
  -- in no text part
  Out : Phase
  -- directly in one
  Within : Phase
  InChunk : Phase
  InWhite : Phase
  InPrefix : Phase
  -- in whitespace of a prefix, or in a marker
  InMark : Phase

abbrev pub is_at : PartSort → Phase → Bool
is_at Elsewhere Out = true
is_at TextPart Within = true
is_at ChunkPiece InChunk = true
is_at ChunkPiece Out = true
is_at WhitePiece InWhite = true
is_at WhitePiece InMark = true
is_at WhitePiece Out = true
is_at PrefixPart InPrefix = true
is_at PrefixPart Out = true
is_at MarkerPiece InMark = true
is_at MarkerPiece Out = true
is_at _ _ = false

abbrev pub entered_by : PartSort → Phase → Phase
entered_by TextPart Out = Within
entered_by ChunkPiece Within = InChunk
entered_by WhitePiece Within = InWhite
entered_by WhitePiece InPrefix = InMark
entered_by PrefixPart Within = InPrefix
entered_by MarkerPiece InPrefix = InMark
entered_by _ s = s

abbrev pub exited_by : PartSort → Phase → Phase
exited_by TextPart Within = Out
exited_by ChunkPiece InChunk = Within
exited_by WhitePiece InWhite = Within
exited_by WhitePiece InMark = InPrefix
exited_by PrefixPart InPrefix = Within
exited_by MarkerPiece InMark = InPrefix
exited_by _ s = s

abbrev pub may_enter : PartSort → Phase → Bool
may_enter Elsewhere Out = true
may_enter TextPart Out = true
may_enter ChunkPiece Within = true
may_enter ChunkPiece Out = true
may_enter WhitePiece Within = true
may_enter WhitePiece InPrefix = true
may_enter WhitePiece Out = true
may_enter PrefixPart Within = true
may_enter PrefixPart Out = true
may_enter MarkerPiece InPrefix = true
may_enter MarkerPiece Out = true
may_enter _ _ = false

abbrev pub may_step : Kind → PartSort → Phase → Bool
may_step Enter sort s = may_enter sort s
may_step Exit sort s = is_at sort s

-- The grammar keeps to it.

abbrev pub holds_name : PartSort → Name → Bool
holds_name outer name = may_hold outer (part_sort name)

abbrev pub outer_sort : Option Name → PartSort
outer_sort None = Elsewhere
outer_sort (Some name) = part_sort name

pub record Inside (outer : PartSort) (x : Expression) (s : Phase) : Type 0 where
  pub at : is_at outer s ≡ true
  pub holds : all_names (holds_name outer) x ≡ true

abbrev pub phases : Machine
phases = record {
  State = Phase;
  entered = λ name s. entered_by (part_sort name) s;
  exited = λ name s. exited_by (part_sort name) s;
  may = λ kind name s. may_step kind (part_sort name) s;
  Has = λ outer x s. Inside (outer_sort outer) x s;
}

held-names : (name : Name) → all_names (holds_name (part_sort name)) (inside unread_text name) ≡ true
held-names n.Data = refl
held-names _ = refl

abbrev same_phase : Phase → Phase → Bool
same_phase Out Out = true
same_phase Within Within = true
same_phase InChunk InChunk = true
same_phase InWhite InWhite = true
same_phase InPrefix InPrefix = true
same_phase InMark InMark = true
same_phase _ _ = false

phase-same : (s t : Phase) → same_phase s t ≡ true → s ≡ t
phase-same Out Out h = refl
phase-same Within Within h = refl
phase-same InChunk InChunk h = refl
phase-same InWhite InWhite h = refl
phase-same InPrefix InPrefix h = refl
phase-same InMark InMark h = refl
phase-same _ _ h = cc

-- a step into a part and out of it
abbrev past : PartSort → Phase → Phase
past inner s = exited_by inner (entered_by inner s)

abbrev is_right : PartSort → PartSort → Phase → Bool
is_right outer inner s =
    may_enter inner s && is_at inner (entered_by inner s) && is_at outer (past inner s)
    && same_phase (exited_by outer (past inner s)) (exited_by outer s)

abbrev allows : PartSort → PartSort → Phase → Bool
allows outer inner s = may_hold outer inner && is_at outer s

all_sorts : List PartSort
all_sorts = TextPart ∷ ChunkPiece ∷ WhitePiece ∷ PrefixPart ∷ MarkerPiece ∷ Elsewhere ∷ []

abbrev number : PartSort → ℕ
number TextPart = 0
number ChunkPiece = 1
number WhitePiece = 2
number PrefixPart = 3
number MarkerPiece = 4
number Elsewhere = 5

sort-at : (a : PartSort) → get_or all_sorts (number a) TextPart ≡ a
unfolding all_sorts
sort-at TextPart = refl
sort-at _ = refl

all_phases : List Phase
all_phases = Out ∷ Within ∷ InChunk ∷ InWhite ∷ InPrefix ∷ InMark ∷ []

abbrev phase_number : Phase → ℕ
phase_number Out = 0
phase_number Within = 1
phase_number InChunk = 2
phase_number InWhite = 3
phase_number InPrefix = 4
phase_number InMark = 5

phase-at : (s : Phase) → get_or all_phases (phase_number s) Out ≡ s
unfolding all_phases
phase-at Out = refl
phase-at _ = refl

each-sort : (test : PartSort → Bool) → list_all test all_sorts ≡ true → (a : PartSort) → test a ≡ true
unfolding all_sorts
each-sort test h a =
    subst (λ (b : PartSort). test b ≡ true) (sort-at a)
    (each-of test all_sorts TextPart (number a) (and_parts (test TextPart) _ h).0 h)

each-phase : (test : Phase → Bool) → list_all test all_phases ≡ true → (s : Phase) → test s ≡ true
unfolding all_phases
each-phase test h s =
    subst (λ (t : Phase). test t ≡ true) (phase-at s)
    (each-of test all_phases Out (phase_number s) (and_parts (test Out) _ h).0 h)

right-all :
    list_all (λ (a : PartSort).
    list_all (λ (b : PartSort). list_all (λ (s : Phase). not (allows a b s) || is_right a b s) all_phases) all_sorts)
    all_sorts ≡
    true
unfolding all_sorts all_phases
right-all = refl

all-right : (outer inner : PartSort) (s : Phase) → (not (allows outer inner s) || is_right outer inner s) ≡ true
all-right outer inner s =
    each-phase (λ (s : Phase). not (allows outer inner s) || is_right outer inner s)
    (each-sort (λ (b : PartSort). list_all (λ (s : Phase). not (allows outer b s) || is_right outer b s) all_phases)
    (each-sort (λ (a : PartSort).
    list_all (λ (b : PartSort). list_all (λ (s : Phase). not (allows a b s) || is_right a b s) all_phases) all_sorts)
    right-all outer) inner) s

record IsRight (outer inner : PartSort) (s : Phase) : Type 0 where
  may : may_enter inner s ≡ true
  inner_at : is_at inner (entered_by inner s) ≡ true
  at : is_at outer (past inner s) ≡ true
  same : exited_by outer (past inner s) ≡ exited_by outer s

right : (outer inner : PartSort) (s : Phase) → may_hold outer inner ≡ true → is_at outer s ≡ true →
    IsRight outer inner s
right outer inner s holds at =
    let may : Bool = may_enter inner s in
    let inner_at : Bool = is_at inner (entered_by inner s) in
    let outer_at : Bool = is_at outer (past inner s) in
    let same : Bool = same_phase (exited_by outer (past inner s)) (exited_by outer s) in
    let all : is_right outer inner s ≡ true = implied (allows outer inner s) (is_right outer inner s)
    (all-right outer inner s) (and_from (may_hold outer inner) (is_at outer s) holds at) in
    let a = and_parts (may && inner_at && outer_at) same all in
    let b = and_parts (may && inner_at) outer_at a.0 in
    let c = and_parts may inner_at b.0 in
    record {
      may = c.0;
      inner_at = c.1;
      at = b.1;
      same = phase-same (exited_by outer (past inner s)) (exited_by outer s) a.1;
    }

outside-same : (outer : Option Name) (name : Name) (s : Phase) →
    IsRight (outer_sort outer) (part_sort name) s → SameOutside phases outer (past (part_sort name) s) s
outside-same None name s r = tt
outside-same (Some around) name s r = r.same

phases-come : (outer : Option Name) (name : Name) (x : Expression) (s : Phase) → Inside (outer_sort outer) x s →
    is_never (following name x) ≡ false → Comes phases outer name x s
phases-come outer name x s is live =
    let r : IsRight (outer_sort outer) (part_sort name) s =
    right (outer_sort outer) (part_sort name) s
    (all-comes (holds_name (outer_sort outer)) name x is.holds live) is.at in
    record {
      may = r.may;
      inner = record { at = r.inner_at; holds = held-names name };
      after = record { at = r.at; holds = all-following (holds_name (outer_sort outer)) name x is.holds };
      outside = outside-same outer name s r;
    }

pub phases-keep : Keeps phases
phases-keep = record { comes = phases-come; ends = λ name x s is. is.at }

all-elsewhere : (x : Expression) → all_names (holds_name Elsewhere) x ≡ true
all-elsewhere x = all-true (holds_name Elsewhere) (λ name. refl) x

pub top-inside : (x : Expression) → Inside Elsewhere x Out
top-inside x = record { at = refl; holds = all-elsewhere x }

-- What is known of the names of each sort.

-- whether a text of this role is one of the tree's
abbrev pub is_told : Role → Bool
is_told (TextRole AsParagraph) = true
is_told (TextRole AsHeading) = true
is_told (TextRole AsCell) = true
is_told _ = false

abbrev pub is_text : PartSort → Bool
is_text TextPart = true
is_text _ = false

pub told-text : (name : Name) → is_told (role name) ≡ is_text (part_sort name)
told-text n.Data = refl
told-text _ = refl

abbrev pub KindOf : PartSort → Option PartKind → Type 0
KindOf TextPart kind = kind ≡ Some k.Text
KindOf sort (Some k.Text) = ⊥
KindOf sort kind = Unit {0}

pub kind-of : (name : Name) → KindOf (part_sort name) (part_kind name)
kind-of n.Data = tt
kind-of n.Paragraph = refl
kind-of n.HeadingAtxText = refl
kind-of n.HeadingSetextText = refl
kind-of n.GfmTableCellText = refl
kind-of _ = tt

abbrev pub role_of : PartSort → Role → Type 0
role_of ChunkPiece x = x ≡ IsQuiet
role_of WhitePiece x = x ≡ IsQuiet
role_of PrefixPart x = x ≡ IsPrefix
role_of MarkerPiece x = x ≡ IsQuoteMarker
role_of sort x = Unit {0}

pub piece-role : (name : Name) → role_of (part_sort name) (role name)
piece-role n.Data = refl
piece-role n.SpaceOrTab = refl
piece-role n.BlockQuotePrefix = refl
piece-role n.BlockQuoteMarker = refl
piece-role _ = tt

-- whether it may be in a text part
abbrev pub is_inner : PartSort → Bool
is_inner TextPart = false
is_inner Elsewhere = false
is_inner _ = true

pub inner-no_part : (name : Name) → (not (is_inner (part_sort name)) || not (is_part name)) ≡ true
inner-no_part n.Data = refl
inner-no_part _ = refl

abbrev pub is_chunk_sort : PartSort → Bool
is_chunk_sort ChunkPiece = true
is_chunk_sort _ = false

abbrev pub is_white_sort : PartSort → Bool
is_white_sort WhitePiece = true
is_white_sort _ = false

pub chunk-data : (name : Name) → is_chunk_sort (part_sort name) ≡ is_data name
chunk-data n.Data = refl
chunk-data _ = refl

pub white-space : (name : Name) → is_white_sort (part_sort name) ≡ is_space_or_tab name
white-space n.Data = refl
white-space n.SpaceOrTab = refl
white-space _ = refl

pub data-no_prefix : (name : Name) → (not (is_data name) || not (is_prefix name)) ≡ true
data-no_prefix n.Data = refl
data-no_prefix _ = refl
