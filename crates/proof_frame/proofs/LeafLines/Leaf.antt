-- Events that are inside of a leaf, with its begin and its end and whitespace before it, are a leaf.
use Rattle.std.proofs.Common.{◌≡◌, ℕ, Bool, true, false, ◌&&◌, ◌||◌, not, List, [], ◌∷◌, ◌++◌, refl, ap, sym, ◌∙◌}
use Rattle.std.proofs.Common.{subst, append_assoc}
use Rattle.std.specs.Prelude.{Option, Some, None}
use Rattle.md_engine.specs.declared.event.Event.{Event}
use Rattle.md_engine.specs.declared.event.Kind.TheVariants.{Enter, Exit}
use Rattle.md_engine.specs.declared.event.Name.{Name}
use Rattle.md_engine.specs.declared.event.Point.{Point}
use Rattle.md_containers.specs.ItemsAllowed.{IsPart}
use Rattle.md_containers.proofs.UnlistedLemmas.{among, valid-append as places-append}
use Rattle.md_meaning.specs.Tree.{Block}
use Rattle.md_events.specs.Events.Endings.{IsLeaf, OnLine, EndingPlace, endings_are_right_from, ends_as_begun}
use Rattle.md_events.specs.Events.Endings.{line_start, on_line, spot_after}
use Rattle.md_events.specs.Events.Grammar.{Expression, following, after_block, blocks, inside, may_end, plain_text}
use Rattle.md_events.specs.Events.Grammar.{unread_text}
use Rattle.md_events.specs.Events.Nested.{around, exit}
use Rattle.md_events.specs.Events.Spelled.{LeafKind, OpenLeaf, LeafRole, Reading, Role, add_block, block_of, fresh}
use Rattle.md_events.specs.Events.Spelled.{read, read_enter, read_exit, role}
use Rattle.md_events.specs.Events.Tiles.{part_kind}
use Rattle.md_events.proofs.EndingsLemmas as ending
use Rattle.md_events.proofs.EndingsLemmas.{in_leaf, others-lead}
use Rattle.md_events.proofs.GrammarLemmas as grammar
use Rattle.md_events.proofs.GrammarLemmas.{IsWord, leads-around}
use Rattle.md_events.proofs.SpelledLemmas.{read-from, read-quiet}
use Rattle.md_outline.specs.LinesAllowed.{HasLines, Site, begun_site}
use Rattle.md_outline.specs.Roles.{is_recorded, is_unlisted}
use Rattle.md_outline.proofs.LinesPass.{MayLeave, passes-leaf}
use Rattle.proof_frame.proofs.EventNames.{NoContainer, lined-known, part-no_container}
use Rattle.proof_frame.proofs.GrammarFronts.{blocks_after}
use Rattle.proof_frame.proofs.LeafFacts as leaf
use Rattle.proof_frame.proofs.LeafFacts.{LeafFacts}
use Rattle.proof_frame.proofs.LeafAllowed.{between-are_valid, leaf-valid, quiet-part, quiets-between}
use Rattle.proof_frame.proofs.PartedFacts.{Still, clear}
use Rattle.proof_frame.proofs.PieceFacts.{Starts}
use Rattle.proof_frame.proofs.PlainFacts.{ArePlain, ArePlainFrom, known-around, plain-append, plain-quiet}
use Rattle.proof_frame.proofs.Stretch.{Stretch, stretch-append, stretch-around, stretch-as}
use Rattle.proof_frame.proofs.LeafLines.Inside.{InsideFacts}
use Rattle.proof_frame.proofs.LeafLines.Lead.{LeadFacts}

-- What is asked of the name of a leaf, each of which `refl` proves.
pub record IsLeafBlock (name : Name) (kind : LeafKind) : Type 0 where
  pub is : role name ≡ LeafRole kind
  pub leaf : on_line name ≡ IsLeaf
  pub no_part : part_kind name ≡ None
  -- it is a block, of no text part
  pub block : following name blocks ≡ after_block

-- and what it holds, whether text parts are read or not
pub record IsLeafName (name : Name) (kind : LeafKind) : Type 0 where
  pub named : IsLeafBlock name kind
  pub begin : Expression
  pub begins : (text : Expression) → inside text name ≡ begin

-- where its line ends, by whether anything is on the last line of the leaf
around-leads : (name : Name) (p q : Point) (es : List Event) (filled : Bool) → on_line name ≡ IsLeaf →
    ending.Leads (in_leaf true) (in_leaf filled) es →
    ending.Leads line_start (leaf.spot_after filled) (around name p q es)
around-leads name p q es filled named leads = λ ys.
    ap
    (λ (x : OnLine).
    ends_as_begun Enter x line_start
    && endings_are_right_from (spot_after Enter x line_start) ((es ++ exit name q ∷ []) ++ ys)) named
    ∙ ap (endings_are_right_from (in_leaf true)) (append_assoc es (exit name q ∷ []) ys)
    ∙ leads (exit name q ∷ ys)
    ∙ ap
    (λ (x : OnLine).
    ends_as_begun Exit x (in_leaf filled) && endings_are_right_from (spot_after Exit x (in_leaf filled)) ys) named
    ∙ ap (λ (s : EndingPlace). endings_are_right_from s ys) (left_leaf filled)
  where
    left_leaf : (x : Bool) → spot_after Exit IsLeaf (in_leaf x) ≡ leaf.spot_after x
    left_leaf true = refl
    left_leaf false = refl

-- in the grammar
around-word : (text : Expression) (name : Name) (p q : Point) (es : List Event) → following name blocks ≡ after_block →
    IsWord text (inside text name ∷ []) es →
    grammar.Leads text (blocks ∷ []) (after_block ∷ []) (around name p q es)
around-word text name p q es block word =
    subst (λ (x : Expression). grammar.Leads text (blocks ∷ []) (x ∷ []) (around name p q es)) block
    (leads-around text blocks name p q es word)

-- as it is read
around-reads : (bytes : List ℕ) (name : Name) (kind : LeafKind) (p q : Point) (to : OpenLeaf) (es : List Event)
    (r : Reading) →
    role name ≡ LeafRole kind → r.leaf ≡ None →
    read bytes (record r { leaf = Some (fresh kind) }) es ≡ record r { leaf = Some to } →
    read bytes r (around name p q es) ≡ add_block (block_of to) r
around-reads bytes name kind p q to es r is shut h =
    ap (λ (x : Role). read bytes (read_enter bytes x p r) (es ++ exit name q ∷ [])) is
    ∙ read-from bytes (record r { leaf = Some (fresh kind) }) (record r { leaf = Some to }) es (exit name q ∷ []) h
    ∙ ap (λ (x : Role). read_exit bytes x q (record r { leaf = Some to })) is
    ∙ ap (λ (o : Option OpenLeaf). add_block (block_of to) (record r { leaf = o })) (sym shut)

-- an outline shows it by its lines
pub around-plain : (bytes : List ℕ) (name : Name) (kind : LeafKind) (p q : Point) (end : Site) (es : List Event) →
    role name ≡ LeafRole kind → HasLines kind → MayLeave end → ArePlainFrom bytes (begun_site kind) end es →
    ArePlain bytes (around name p q es)
around-plain bytes name kind p q end es is lined leave h = record {
  known =
      known-around bytes name p q es (ap is_unlisted is ∙ lined-known kind lined) (untold p) (untold q) h.known;
  lines = passes-leaf bytes name kind p q end es is lined leave h.lines;
}
  where
    untold : (x : Point) → (not (is_recorded (role name)) || clear bytes x) ≡ true
    untold x = ap (λ (y : Role). not (is_recorded y) || clear bytes x) is

-- What is inside of a leaf with this name, which shows this block: whether anything is on its last line, and what is
-- asked of all of it together.
pub record LeafInside (bytes : List ℕ) (name : Name) (block : Block) (full : Bool) (p q : Point)
    (unread done : List Event) : Type 0 where
  pub unread_starts : Starts unread
  pub starts : Starts done
  pub stretch : Stretch IsPart bytes p q unread done
  -- it keeps the grammar
  pub unread_word : IsWord unread_text (inside unread_text name ∷ []) unread
  pub word : IsWord plain_text (inside plain_text name ∷ []) done
  -- and where its line ends
  pub unread_ending : ending.Leads (in_leaf true) (in_leaf full) unread
  pub ending : ending.Leads (in_leaf true) (in_leaf full) done
  -- the leaf may be outlined, and is read as its block
  pub plain : clear bytes p ≡ true → ArePlain bytes (around name p q done)
  pub reads : (r : Reading) → r.text ≡ None → r.leaf ≡ None → read bytes r (around name p q done) ≡ add_block block r

-- The leaf.
pub leaf-around : {bytes : List ℕ} {block : Block} {full : Bool} {p q : Point} {us es : List Event} (name : Name)
    (kind : LeafKind) →
    IsLeafBlock name kind → LeafInside bytes name block full p q us es →
    LeafFacts bytes (Some block) full p q (around name p q us) (around name p q es)
leaf-around {bytes = bytes} {full = full} {p = p} {q = q} {us = us} {es = es} name kind named h = record {
  are_valid = record {
    stretch =
        stretch-around name
        (record {
          role_is = subst (λ (x : Role). NoContainer x) (sym named.is) tt;
          no_part = named.no_part;
          still = subst (λ (x : Role). Still x) (sym named.is) tt;
        }) h.unread_starts h.starts (stretch-as part-no_container h.stretch);
    following = true;
    unread_word = around-word unread_text name p q us named.block h.unread_word;
    word = around-word plain_text name p q es named.block h.word;
    unread_ending = around-leads name p q us full named.leaf h.unread_ending;
    ending = around-leads name p q es full named.leaf h.ending;
    valid = λ held. leaf-valid bytes held name kind p q es named.is h.stretch.roles;
    plain = h.plain;
  };
  reads = h.reads;
}

-- The same after whitespace.
pub facts-after_lead : {bytes : List ℕ} {block : Option Block} {full : Bool} {p a q : Point}
    {lead us es : List Event} →
    LeadFacts bytes p a lead → LeafFacts bytes block full a q us es →
    LeafFacts bytes block full p q (lead ++ us) (lead ++ es)
facts-after_lead {bytes = bytes} {full = full} {lead = lead} {us = us} {es = es} front h = record {
  are_valid = record {
    stretch =
        stretch-append (stretch-as (λ x quiet. part-no_container x (quiet-part x quiet)) front.stretch)
        h.are_valid.stretch
        (λ first last. front.following first);
    following = h.are_valid.following;
    unread_word =
        grammar.leads-append unread_text (blocks ∷ []) (blocks ∷ []) (blocks_after h.are_valid.following ∷ []) lead us
        (front.word unread_text) h.are_valid.unread_word;
    word =
        grammar.leads-append plain_text (blocks ∷ []) (blocks ∷ []) (blocks_after h.are_valid.following ∷ []) lead es
        (front.word plain_text) h.are_valid.word;
    unread_ending =
        ending.leads-append line_start line_start (leaf.spot_after full) lead us lead_ends h.are_valid.unread_ending;
    ending = ending.leads-append line_start line_start (leaf.spot_after full) lead es lead_ends h.are_valid.ending;
    valid = λ held.
        places-append bytes (among held) (among held) (among held) lead es
        (between-are_valid bytes held lead (quiets-between lead front.stretch.roles)) (h.are_valid.valid held);
    plain = λ first.
        plain-append bytes lead es (plain-quiet bytes lead front.stretch.roles) (h.are_valid.plain (front.clear first));
  };
  reads = λ r text shut.
      read-from bytes r r lead es (read-quiet bytes r lead front.stretch.roles) ∙ h.reads r text shut;
}
  where
    lead_ends : ending.Leads line_start line_start lead
    lead_ends = others-lead line_start lead refl front.others

-- The leaf of what is known of events inside of it. After an empty line its ending is that of a blank line.
pub inside-leaf : {bytes : List ℕ} {a q : Point} {left : Expression} {to : OpenLeaf} {end : Site} {full : Bool}
    {us es : List Event} (name : Name) (kind : LeafKind) →
    (named : IsLeafName name kind) → Starts us → Starts es →
    InsideFacts bytes a q named.begin left (fresh kind) to (begun_site kind) end us es →
    ending.Leads (in_leaf true) (in_leaf full) us → ending.Leads (in_leaf true) (in_leaf full) es →
    may_end left ≡ true → (clear bytes a ≡ true → ArePlain bytes (around name a q es)) →
    LeafFacts bytes (Some (block_of to)) full a q (around name a q us) (around name a q es)
inside-leaf {bytes = bytes} {a = a} {q = q} {left = left} {to = to} {es = es} name kind named us_start start h
    us_leads leads ends plain =
    leaf-around name kind named.named (record {
      unread_starts = us_start;
      starts = start;
      stretch = h.parts.stretch;
      unread_word = word unread_text _ h.parts.unread_word;
      word = word plain_text _ h.parts.word;
      unread_ending = us_leads;
      ending = leads;
      plain = plain;
      reads = λ r text shut.
          around-reads bytes name kind a q to es r named.named.is shut
          (h.parts.reads (record r { leaf = Some (fresh kind) }) text refl);
    })
  where
    word : (text : Expression) (es : List Event) → grammar.Leads text (named.begin ∷ []) (left ∷ []) es →
        IsWord text (inside text name ∷ []) es
    word text es leads =
        subst (λ (x : Expression). IsWord text (x ∷ []) es) (sym (named.begins text))
        (record { left = left; leads = leads; ends = ends })
