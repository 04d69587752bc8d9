-- What may still come in a part, as far as lists and items matter: in a container, where one is among its blocks; in
-- all else, no list.
use Rattle.std.proofs.Common.{◌≡◌, Bool, true, false, cond, ◌&&◌, ◌||◌, not, List, []}
use Rattle.std.proofs.Common.{◌∷◌, refl, ap, sym, ◌∙◌, ◌⊎◌, inl, inr}
use Rattle.std.specs.List.{list_any}
use Rattle.std.proofs.lemmas.Bool.{and_from, and_parts, or_from}
use Rattle.md_engine.specs.declared.event.Name.{Name}
use Rattle.md_engine.specs.declared.event.Name.TheVariants as n
use Rattle.md_containers.specs.Unlisted.{in_place}
use Rattle.md_events.specs.Events.Grammar.{Expression, Many, Never, Nothing, One, Or, Then, and_then, following}
use Rattle.md_events.specs.Events.Grammar.{after_block, blocks, inside, may_end, one, or_else, white}
use Rattle.md_events.specs.Events.Words.{same_name}

-- Containers.

-- a name of no whitespace, no list and no item
pub record IsOfNoList (name : Name) : Type 0 where
  pub space : same_name n.SpaceOrTab name ≡ false
  pub ordered : same_name n.ListOrdered name ≡ false
  pub unordered : same_name n.ListUnordered name ≡ false
  pub item : same_name n.ListItem name ≡ false

-- Where one is in a container: before its first prefix, which has this name, or after the whitespace there; at the
-- begin of a line or after a block; in a text, before a byte order mark, of frontmatter or of both; or where nothing
-- may come.
pub data Stage : Type 0 where
  AtFront : (prefix : Name) → IsOfNoList prefix → Stage
  AtPrefix : (prefix : Name) → IsOfNoList prefix → Stage
  AtLine : Stage
  AfterBlock : Stage
  AtMark : Stage
  AtFrontmatter : Stage
  AtBoth : Stage
  Dead : Stage

abbrev pub left_at : Stage → Expression
left_at (AtFront prefix apart) = Then white (Then (one prefix) blocks)
left_at (AtPrefix prefix apart) = Then (one prefix) blocks
left_at AtLine = blocks
left_at AfterBlock = after_block
left_at AtMark = Then (one n.ByteOrderMark) blocks
left_at AtFrontmatter = Then (one n.Frontmatter) after_block
left_at AtBoth = Then (one n.ByteOrderMark) (Then (one n.Frontmatter) after_block)
left_at Dead = Never

abbrev HasStage : Expression → Type 0
HasStage x = (s : Stage) × (x ≡ left_at s)

is-line : (x : Expression) → x ≡ blocks → HasStage x
is-line x e = (AtLine, e)

is-following : (x : Expression) → x ≡ after_block → HasStage x
is-following x e = (AfterBlock, e)

is-dead : (x : Expression) → x ≡ Never → HasStage x
is-dead x e = (Dead, e)

-- after a name that may be that of the prefix
at-prefix : (same : Bool) → HasStage (or_else (and_then (cond same Nothing Never) blocks) Never)
at-prefix true = (AtLine, refl)
at-prefix false = (Dead, refl)

-- at the begin of a line comes what leaves it there, or a block, or nothing
line-following : (name : Name) → HasStage (following name blocks)
line-following n.SpaceOrTab = (AtLine, refl)
line-following _ = first_of (search is-line, search is-following, search is-dead)

stage-following : (s : Stage) (name : Name) → HasStage (following name (left_at s))
stage-following (AtFront prefix apart) n.SpaceOrTab =
    let front : Bool → Expression =
    λ same. or_else (Then (one prefix) blocks) (or_else (and_then (cond (same || false) Nothing Never) blocks) Never) in
    (AtPrefix prefix apart, ap front apart.space)
stage-following (AtFront prefix apart) name = at-prefix (list_any (same_name name) (prefix ∷ []))
stage-following (AtPrefix prefix apart) name = at-prefix (list_any (same_name name) (prefix ∷ []))
stage-following AtLine name = line-following name
stage-following AfterBlock n.LineEnding = (AtLine, refl)
stage-following AfterBlock n.BlankLineEnding = (AtLine, refl)
stage-following AfterBlock _ = (Dead, refl)
stage-following AtMark n.ByteOrderMark = (AtLine, refl)
stage-following AtMark _ = (Dead, refl)
stage-following AtFrontmatter n.Frontmatter = (AfterBlock, refl)
stage-following AtFrontmatter _ = (Dead, refl)
stage-following AtBoth n.ByteOrderMark = (AtFrontmatter, refl)
stage-following AtBoth _ = (Dead, refl)
stage-following Dead name = (Dead, refl)

-- All else.

abbrev is_listing : Name → Bool
is_listing n.ListItem = true
is_listing n.ListOrdered = true
is_listing n.ListUnordered = true
is_listing _ = false

-- no list and no item may come
abbrev pub is_plain : Expression → Bool
is_plain Never = true
is_plain Nothing = true
is_plain (One names) = not (list_any is_listing names)
is_plain (Then x y) = is_plain x && is_plain y
is_plain (Or x y) = is_plain x && is_plain y
is_plain (Many x) = is_plain x

plain-and_then : (x y : Expression) → is_plain x ≡ true → is_plain y ≡ true → is_plain (and_then x y) ≡ true
plain-and_then Never y h k = refl
plain-and_then Nothing y h k = k
plain-and_then x y h k = and_from (is_plain x) (is_plain y) h k

plain-or_else : (x y : Expression) → is_plain x ≡ true → is_plain y ≡ true → is_plain (or_else x y) ≡ true
plain-or_else Never y h k = k
plain-or_else x Never h k = h
plain-or_else Nothing Nothing h k = refl
plain-or_else x y h k = and_from (is_plain x) (is_plain y) h k

plain-if : (b : Bool) (x : Expression) → is_plain x ≡ true → is_plain (cond b x Never) ≡ true
plain-if true x h = h
plain-if false x h = refl

plain-one : (b : Bool) → is_plain (cond b Nothing Never) ≡ true
plain-one true = refl
plain-one false = refl

plain-following : (name : Name) (x : Expression) → is_plain x ≡ true → is_plain (following name x) ≡ true
plain-following name Never h = refl
plain-following name Nothing h = refl
plain-following name (One names) h = plain-one (list_any (same_name name) names)
plain-following name (Then x y) h =
    let two = and_parts (is_plain x) (is_plain y) h in
    plain-or_else (and_then (following name x) y) (cond (may_end x) (following name y) Never)
    (plain-and_then (following name x) y (plain-following name x two.0) two.1)
    (plain-if (may_end x) (following name y) (plain-following name y two.1))
plain-following name (Or x y) h =
    let two = and_parts (is_plain x) (is_plain y) h in
    plain-or_else (following name x) (following name y) (plain-following name x two.0) (plain-following name y two.1)
plain-following name (Many x) h = plain-and_then (following name x) (Many x) (plain-following name x h) h

-- a name of a list, or of an item
abbrev pub IsListing : Name → Type 0
IsListing n.ListItem = Unit {0}
IsListing n.ListOrdered = Unit {0}
IsListing n.ListUnordered = Unit {0}
IsListing _ = ⊥

no-listing : (name : Name) → is_listing name ≡ false →
    (same_name n.ListItem name ≡ false) × (same_name n.ListOrdered name ≡ false)
    × (same_name n.ListUnordered name ≡ false)
no-listing n.ListItem h = cc
no-listing n.ListOrdered h = cc
no-listing n.ListUnordered h = cc
no-listing _ h = (refl, refl, refl)

or-parts : (a b : Bool) → not (a || b) ≡ true → (a ≡ false) × (not b ≡ true)
or-parts true b h = absurd (cc)
or-parts false b h = (refl, h)

listing-any : (l : Name) → IsListing l → (names : List Name) → not (list_any is_listing names) ≡ true →
    list_any (same_name l) names ≡ false
listing-any l is [] h = refl
listing-any l is (name ∷ names) h =
    let two = or-parts (is_listing name) (list_any is_listing names) h in
    or_from (same_name l name) (list_any (same_name l) names) (go l is (no-listing name two.0))
    (listing-any l is names two.1)
  where
    go : (l : Name) → IsListing l →
        (same_name n.ListItem name ≡ false) × (same_name n.ListOrdered name ≡ false)
        × (same_name n.ListUnordered name ≡ false) → same_name l name ≡ false
    go n.ListItem is k = k.0
    go n.ListOrdered is k = k.1
    go n.ListUnordered is k = k.2
    go _ is k = absurd is

never-then : (x y : Expression) → x ≡ Never → and_then x y ≡ Never
never-then x y h = ap (λ (z : Expression). and_then z y) h

never-if : (b : Bool) (x : Expression) → x ≡ Never → cond b x Never ≡ Never
never-if true x h = h
never-if false x h = refl

never-or : (x y : Expression) → x ≡ Never → y ≡ Never → or_else x y ≡ Never
never-or x y h k = ap (λ (z : Expression). or_else z y) h ∙ k

-- where no list may come, none does
plain-never : (l : Name) → IsListing l → (x : Expression) → is_plain x ≡ true → following l x ≡ Never
plain-never l is Never h = refl
plain-never l is Nothing h = refl
plain-never l is (One names) h = ap (λ (b : Bool). cond b Nothing Never) (listing-any l is names h)
plain-never l is (Then x y) h =
    let two = and_parts (is_plain x) (is_plain y) h in
    never-or (and_then (following l x) y) (cond (may_end x) (following l y) Never)
    (never-then (following l x) y (plain-never l is x two.0))
    (never-if (may_end x) (following l y) (plain-never l is y two.1))
plain-never l is (Or x y) h =
    let two = and_parts (is_plain x) (is_plain y) h in
    never-or (following l x) (following l y) (plain-never l is x two.0) (plain-never l is y two.1)
plain-never l is (Many x) h = never-then (following l x) (Many x) (plain-never l is x h)

-- Both.

abbrev pub IsTame : Expression → Type 0
IsTame x = HasStage x ⊎ (is_plain x ≡ true)

pub tame-following : (name : Name) (x : Expression) → IsTame x → IsTame (following name x)
tame-following name x (inl h) =
    let next = stage-following h.0 name in inl (next.0, ap (following name) h.1 ∙ next.1)
tame-following name x (inr h) = inr (plain-following name x h)

-- where a list comes, blocks of a container continue after it; and an item is in none
abbrev pub ListsWell : Expression → Type 0
ListsWell x =
    ((following n.ListOrdered x ≡ after_block) ⊎ (following n.ListOrdered x ≡ Never))
    × (following n.ListUnordered x ≡ following n.ListOrdered x) × (following n.ListItem x ≡ Never)

-- no list comes where the prefix must
prefix-first : (same : Bool) → same ≡ false →
    or_else (and_then (cond (same || false) Nothing Never) blocks) Never ≡ Never
prefix-first same e =
    ap (λ (same : Bool). or_else (and_then (cond (same || false) Nothing Never) blocks) Never) e

prefix-lists : (prefix : Name) → IsOfNoList prefix → ListsWell (Then (one prefix) blocks)
prefix-lists prefix apart =
    let none = prefix-first (same_name n.ListOrdered prefix) apart.ordered in (
      inr none,
      prefix-first (same_name n.ListUnordered prefix) apart.unordered ∙ sym none,
      prefix-first (same_name n.ListItem prefix) apart.item,
    )

stage-lists : (s : Stage) → ListsWell (left_at s)
stage-lists AtLine = (inl refl, refl, refl)
stage-lists (AtFront prefix apart) = prefix-lists prefix apart
stage-lists (AtPrefix prefix apart) = prefix-lists prefix apart
stage-lists _ = (inr refl, refl, refl)

pub tame-lists : (x : Expression) → IsTame x → ListsWell x
tame-lists x (inl h) =
    let well : ListsWell (left_at h.0) = stage-lists h.0 in (
      moved well.0,
      ap (following n.ListUnordered) h.1 ∙ well.1 ∙ ap (following n.ListOrdered) (sym h.1),
      ap (following n.ListItem) h.1 ∙ well.2,
    )
  where
    moved : (following n.ListOrdered (left_at h.0) ≡ after_block) ⊎ (following n.ListOrdered (left_at h.0) ≡ Never) →
        (following n.ListOrdered x ≡ after_block) ⊎ (following n.ListOrdered x ≡ Never)
    moved (inl k) = inl (ap (following n.ListOrdered) h.1 ∙ k)
    moved (inr k) = inr (ap (following n.ListOrdered) h.1 ∙ k)
tame-lists x (inr h) =
    let none : following n.ListOrdered x ≡ Never = plain-never n.ListOrdered tt x h in
    (inr none, plain-never n.ListUnordered tt x h ∙ sym none, plain-never n.ListItem tt x h)

-- a container before its first prefix
tame-front : (prefix : Name) → IsOfNoList prefix →
    IsTame (Then white (Then (one prefix) blocks))
tame-front prefix apart = inl (AtFront prefix apart, refl)

pub tame-item : IsTame (Then white (Then (one n.ListItemPrefix) blocks))
tame-item = tame-front n.ListItemPrefix (record { space = refl; ordered = refl; unordered = refl; item = refl })

-- what is in a part that is no list is so
pub tame-inside : (text : Expression) → is_plain text ≡ true → (name : Name) →
    IsTame (inside text name) ⊎ (in_place name ≡ n.ListItem)
tame-inside text h n.ListItem = inl tame-item
tame-inside text h _ = first_of (search (inl, inr), search (inl, tame-front))
