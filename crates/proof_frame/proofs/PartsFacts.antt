-- What is known of events that are inside of a leaf: of each part, of some one after the other, and with a name of
-- their own around them.
use Rattle.std.proofs.Common.{◌≡◌, ℕ, Bool, true, false, cond, List, [], ◌∷◌, ◌++◌, length, refl, sym, ap, ◌∙◌, subst}
use Rattle.std.specs.Prelude.{IsTrue, nat_lt, None, option_map, Option, Some}
use Rattle.md_engine.specs.declared.event.Event.{Event}
use Rattle.md_engine.specs.declared.event.Name.{Name}
use Rattle.md_engine.specs.declared.event.Name.TheVariants as n
use Rattle.md_engine.specs.declared.event.Point.{Point}
use Rattle.md_containers.specs.ItemsAllowed.{IsPart}
use Rattle.md_events.specs.Events.Grammar.{Expression, following, inside, may_end, plain_text, unread_text}
use Rattle.md_events.specs.Events.Nested.{around, enter, exit, pair}
use Rattle.md_events.specs.Events.Pieces.{is_valid_piece}
use Rattle.md_events.specs.Events.Places.{at_or_before}
use Rattle.md_events.specs.Events.Spelled.{OpenLeaf, Reading, Text, at_ending, next_line, read, role}
use Rattle.md_events.specs.Events.Tiles.{part_kind}
use Rattle.md_events.proofs.EndingsLemmas.{AreOthers, Stays, stays-append, stays-others}
use Rattle.md_events.proofs.FeedLines.{IsEnding}
use Rattle.md_events.proofs.GrammarLemmas as grammar
use Rattle.md_events.proofs.GrammarLemmas.{IsWord, leads-around}
use Rattle.md_events.proofs.SpelledLemmas.{Quiet, QuietOrPrefix, Roles, read-from, read-quiet, read-within}
use Rattle.proof_frame.proofs.ContainerNames.{TakesPrefixes}
use Rattle.proof_frame.proofs.EndingFacts.{stretch-ended}
use Rattle.proof_frame.proofs.FrontFacts.{LinePrefix}
use Rattle.proof_frame.proofs.FrontNames.{fronts-prefixes}
use Rattle.proof_frame.proofs.FrontValid.{fronts-others, stretch-front}
use Rattle.proof_frame.proofs.GrammarFronts.{front-stays}
use Rattle.proof_frame.proofs.LeafAllowed.{quiet-part}
use Rattle.proof_frame.proofs.PartFacts.{quiet-no_parts}
use Rattle.proof_frame.proofs.PartedFacts.{Still, quiets-still, sits-still}
use Rattle.proof_frame.proofs.PieceFacts.{Starts, span}
use Rattle.proof_frame.proofs.PrefixNames.{prefixes-roles}
use Rattle.proof_frame.proofs.Stretch.{IsMiddle, Stretch, stretch-append, stretch-around, stretch-none, stretch-pair}

-- where this leaf is open and no text, that leaf is open after these events
abbrev pub ReadsLeaf : List ℕ → OpenLeaf → OpenLeaf → List Event → Type 0
ReadsLeaf bytes from to es =
    (r : Reading) → r.text ≡ None → r.leaf ≡ Some from → read bytes r es ≡ record r { leaf = Some to }

-- Parts of a leaf are from a point to a point, before text parts are read, and those once they are. Of the grammar of
-- the leaf this is left before them, and that after them; they are read from this to that.
pub record PartsFacts (bytes : List ℕ) (p q : Point) (x y : Expression) (from to : OpenLeaf)
    (unread done : List Event) : Type 0 where
  pub stretch : Stretch IsPart bytes p q unread done
  -- they keep the grammar
  pub unread_word : grammar.Leads unread_text (x ∷ []) (y ∷ []) unread
  pub word : grammar.Leads plain_text (x ∷ []) (y ∷ []) done
  -- their endings are endings in a leaf
  pub unread_stays : Stays unread
  pub stays : Stays done
  -- and they are read
  pub reads : ReadsLeaf bytes from to done

-- One after the other.
pub parts-append : {bytes : List ℕ} {p q r : Point} {x y z : Expression} {from mid to : OpenLeaf}
    {us es vs fs : List Event} →
    PartsFacts bytes p q x y from mid us es → PartsFacts bytes q r y z mid to vs fs → IsMiddle bytes p q r →
    PartsFacts bytes p r x z from to (us ++ vs) (es ++ fs)
parts-append {bytes = bytes} {x = x} {y = y} {z = z} {mid = mid} {us = us} {es = es} {vs = vs} {fs = fs} h k middle =
    record {
      stretch = stretch-append h.stretch k.stretch middle;
      unread_word = grammar.leads-append unread_text (x ∷ []) (y ∷ []) (z ∷ []) us vs h.unread_word k.unread_word;
      word = grammar.leads-append plain_text (x ∷ []) (y ∷ []) (z ∷ []) es fs h.word k.word;
      unread_stays = stays-append us vs h.unread_stays k.unread_stays;
      stays = stays-append es fs h.stays k.stays;
      reads =
          λ s text leaf. read-from bytes s (record s { leaf = Some mid }) es fs (h.reads s text leaf)
          ∙ k.reads (record s { leaf = Some mid }) text refl;
    }

-- What the tree does not show.

-- it leaves the leaf as it is
pub quiet-reads : (bytes : List ℕ) (leaf : OpenLeaf) (es : List Event) → Roles Quiet es → ReadsLeaf bytes leaf leaf es
quiet-reads bytes leaf es h s text is_open =
    read-quiet bytes s es h ∙ ap (λ (o : Option OpenLeaf). record s { leaf = o }) is_open

-- none
pub parts-none : (bytes : List ℕ) (p : Point) (x : Expression) (leaf : OpenLeaf) →
    PartsFacts bytes p p x x leaf leaf [] []
parts-none bytes p x leaf = record {
  stretch = stretch-none IsPart bytes p;
  unread_word = λ outer. refl;
  word = λ outer. refl;
  unread_stays = λ b. (b, λ ys. refl);
  stays = λ b. (b, λ ys. refl);
  reads = quiet-reads bytes leaf [] tt;
}

-- a piece with such a name
pub parts-pair : (bytes : List ℕ) (name : Name) (p q : Point) (x : Expression) (leaf : OpenLeaf) →
    Quiet (role name) → AreOthers (pair name p q) → ((text : Expression) → may_end (inside text name) ≡ true) →
    IsTrue (at_or_before p q) → is_valid_piece bytes (span name p q) ≡ true →
    PartsFacts bytes p q x (following name x) leaf leaf (pair name p q) (pair name p q)
parts-pair bytes name p q x leaf quiet others ends order valid = record {
  stretch =
      stretch-pair IsPart bytes name p q
      (record {
        role_is = quiet-part (role name) quiet;
        no_part = (quiet-no_parts (pair name p q) (quiet, (quiet, tt))).0;
        parted = λ a b. sits-still bytes (pair name a b) (quiets-still (pair name a b) (quiet, (quiet, tt)));
      }) order valid;
  unread_word = grammar.leads-pair unread_text x name p q (ends unread_text);
  word = grammar.leads-pair plain_text x name p q (ends plain_text);
  unread_stays = stays-others (pair name p q) others;
  stays = stays-others (pair name p q) others;
  reads = quiet-reads bytes leaf (pair name p q) (quiet, (quiet, tt));
}

-- An ending between two lines.

-- it opens a line of the leaf, if the text continues after it
abbrev pub following_ending : List ℕ → Point → OpenLeaf → OpenLeaf
following_ending bytes q leaf = cond (nat_lt q.index (length bytes)) (next_line leaf) leaf

ending-reads : (bytes : List ℕ) (p q : Point) (leaf : OpenLeaf) →
    ReadsLeaf bytes leaf (following_ending bytes q leaf) (pair n.LineEnding p q)
ending-reads bytes p q leaf s text is_open =
    ap (λ (o : Option Text). at_ending bytes q o s) text ∙ go (nat_lt q.index (length bytes))
  where
    go : (x : Bool) →
        cond x (record s { leaf = option_map next_line s.leaf }) s ≡
        record s { leaf = Some (cond x (next_line leaf) leaf) }
    go true = ap (λ (o : Option OpenLeaf). record s { leaf = option_map next_line o }) is_open
    go false = ap (λ (o : Option OpenLeaf). record s { leaf = o }) is_open

pub parts-ended : (bytes : List ℕ) (p q : Point) (x : Expression) (leaf : OpenLeaf) → p.vs ≡ 0 → IsEnding bytes p q →
    PartsFacts bytes p q x (following n.LineEnding x) leaf (following_ending bytes q leaf) (pair n.LineEnding p q)
    (pair n.LineEnding p q)
parts-ended bytes p q x leaf whole is = record {
  stretch = stretch-ended IsPart bytes false p q tt tt whole is;
  unread_word = grammar.leads-pair unread_text x n.LineEnding p q refl;
  word = grammar.leads-pair plain_text x n.LineEnding p q refl;
  unread_stays = λ b. (false, λ ys. refl);
  stays = λ b. (false, λ ys. refl);
  reads = ending-reads bytes p q leaf;
}

-- Prefixes of containers that continue, before a further line.
pub parts-front : (bytes : List ℕ) (p q : Point) (x : Expression) (leaf : OpenLeaf) (front : List Event) →
    TakesPrefixes x → LinePrefix bytes [] p q front → PartsFacts bytes p q x x leaf leaf front front
parts-front bytes p q x leaf front takes is = record {
  stretch = stretch-front IsPart bytes p q front tt tt tt is;
  unread_word = front-stays unread_text x bytes [] p q front takes is refl;
  word = front-stays plain_text x bytes [] p q front takes is refl;
  unread_stays = stays-others front (fronts-others bytes [] p q front is);
  stays = stays-others front (fronts-others bytes [] p q front is);
  reads =
      λ s text is_open. read-within bytes s leaf front text is_open
      (prefixes-roles QuietOrPrefix front tt tt tt (fronts-prefixes bytes [] p q front refl is))
      ∙ ap (λ (o : Option OpenLeaf). record s { leaf = o }) is_open;
}

-- A name around others.

-- what is asked of it, each of which `refl` or `tt` proves; it holds this
pub record IsPartName (name : Name) (begin : Expression) : Type 0 where
  pub no_part : part_kind name ≡ None
  pub part : IsPart (role name)
  pub still : Still (role name)
  pub begins : (text : Expression) → inside text name ≡ begin
  pub enters : (p : Point) → AreOthers (enter name p ∷ [])
  pub exits : (p : Point) → AreOthers (exit name p ∷ [])

-- with such a name that the tree does not show it is read as what is in it
pub around-reads : (bytes : List ℕ) (name : Name) (p q : Point) (from to : OpenLeaf) (es : List Event) →
    Quiet (role name) → ReadsLeaf bytes from to es → ReadsLeaf bytes from to (around name p q es)
around-reads bytes name p q from to es quiet h s text is_open =
    read-from bytes s s (enter name p ∷ []) (es ++ exit name q ∷ [])
    (read-quiet bytes s (enter name p ∷ []) (quiet, tt))
    ∙ read-from bytes s (record s { leaf = Some to }) es (exit name q ∷ []) (h s text is_open)
    ∙ read-quiet bytes (record s { leaf = Some to }) (exit name q ∷ []) (quiet, tt)

around-stays : (name : Name) (p q : Point) (es : List Event) → AreOthers (enter name p ∷ []) →
    AreOthers (exit name q ∷ []) → Stays es → Stays (around name p q es)
around-stays name p q es enters exits h =
    stays-append (enter name p ∷ []) (es ++ exit name q ∷ []) (stays-others (enter name p ∷ []) enters)
    (stays-append es (exit name q ∷ []) h (stays-others (exit name q ∷ []) exits))

pub parts-around : (bytes : List ℕ) (name : Name) (p q : Point) (x begin left : Expression) (a b from to : OpenLeaf)
    (unread done : List Event) →
    IsPartName name begin → Starts unread → Starts done → may_end left ≡ true →
    PartsFacts bytes p q begin left a b unread done → ReadsLeaf bytes from to (around name p q done) →
    PartsFacts bytes p q x (following name x) from to (around name p q unread) (around name p q done)
parts-around bytes name p q x begin left a b from to unread done named us starts ends h reads = record {
  stretch =
      stretch-around name (record { role_is = named.part; no_part = named.no_part; still = named.still }) us starts
      h.stretch;
  unread_word = leads-around unread_text x name p q unread (word unread_text unread h.unread_word);
  word = leads-around plain_text x name p q done (word plain_text done h.word);
  unread_stays = around-stays name p q unread (named.enters p) (named.exits q) h.unread_stays;
  stays = around-stays name p q done (named.enters p) (named.exits q) h.stays;
  reads = reads;
}
  where
    word : (text : Expression) (es : List Event) → grammar.Leads text (begin ∷ []) (left ∷ []) es →
        IsWord text (inside text name ∷ []) es
    word text es leads =
        subst (λ (e : Expression). IsWord text (e ∷ []) es) (sym (named.begins text))
        (record { left = left; leads = leads; ends = ends })
