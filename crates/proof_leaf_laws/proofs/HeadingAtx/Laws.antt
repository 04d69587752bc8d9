-- The laws of ATX headings.
use Rattle.md_engine.specs.declared.tokenizer.held_leaf.HeldLeaf.TheVariants as held_leaf
use Rattle.std.proofs.Common.{◌≡◌, ℕ, true, List, ◌++◌, ◌&&◌, refl, sym, ap, ◌∙◌, subst}
use Rattle.std.specs.Prelude.{Option, Some}
use Rattle.std.proofs.lemmas.Bool.{and_parts}
use Rattle.md_engine.specs.declared.configuration.ParseOptions.{ParseOptions}
use Rattle.md_engine.specs.declared.event.Event.{Event}
use Rattle.md_engine.specs.declared.event.Name.TheVariants as n
use Rattle.md_engine.specs.declared.event.Point.{Point}
use Rattle.md_leaves.specs.HeadingRule.{is_heading}
use Rattle.md_leaves.specs.HeadingText.{linked_text}
use Rattle.md_leaves.specs.HeadingTitle.{title_of}
use Rattle.md_events.specs.declared.inline.Chunk.{Chunk}
use Rattle.md_events.specs.Events.Places.{past_text}
use Rattle.md_events.specs.Events.Spelled.{OfHeadingAtx}
use Rattle.md_events.proofs.EndingsLemmas.{AreOthers, Leads, in_leaf, others-lead}
use Rattle.md_meaning.specs.Rest.{Rest, has_small_indent, trim_start}
use Rattle.proof_frame.specs.RestLine.{rest_line}
use Rattle.proof_leaf_laws.specs.Leaf.HeadingAtx.{heading_leaf, read_text}
use Rattle.proof_leaf_laws.proofs.HeadingAtx.Outside.{heading_resolver}
use Rattle.proof_leaf_laws.proofs.HeadingAtx.Cells.{heading-adds, heading-fits}
use Rattle.proof_leaf_laws.proofs.HeadingAtx.Endings.{linked-others, title-others}
use Rattle.proof_leaf_laws.proofs.HeadingAtx.Nests.{heading-nests}
use Rattle.proof_leaf_laws.proofs.HeadingAtx.NoContent.{heading-no_content}
use Rattle.proof_leaf_laws.proofs.HeadingAtx.Plain.{heading-plain}
use Rattle.proof_leaf_laws.proofs.HeadingAtx.Spelled.{heading-reads}
use Rattle.proof_leaf_laws.proofs.HeadingAtx.Texts.{heading-resolved}
use Rattle.proof_leaf_laws.proofs.HeadingAtx.Title.{TitleFacts, title-facts}
use Rattle.proof_leaf_laws.proofs.HeadingAtx.Trial.{trial-looked, trial-refused, trial-shrinks, trial-took}
use Rattle.proof_leaf_laws.proofs.HeadingAtx.Names.{heading-alone, heading-unjoined, heading-unspanned}
use Rattle.proof_leaf_laws.proofs.HeadingAtx.Names.{heading-unturned}
use Rattle.proof_leaf_laws.proofs.HeadingAtx.Words.{read-word, unread-word}
use Rattle.proof_frame.proofs.LeafFacts.{LeafFacts, LineAt}
use Rattle.proof_frame.proofs.LeafLaws.{LeafLaws}
use Rattle.proof_frame.proofs.LeafLines.Leaf.{leaf-around}
use Rattle.proof_frame.proofs.RestFacts.{rest-trim}

-- the line of a heading begins with its markers, after whitespace
line-begins : (options : ParseOptions) (r : Rest) → heading_leaf.starts options held_leaf.None r ≡ true →
    is_heading (trim_start (rest_line r)) ≡ true
line-begins options r starts =
    ap is_heading (rest-trim r)
    ∙ (and_parts (options.constructs.heading_atx && has_small_indent options r)
    (is_heading (trim_start r.bytes)) starts).1

-- what is known of its events
heading-facts : (options : ParseOptions) (bytes : List ℕ) (r : Rest) (p q : Point) →
    heading_leaf.starts options held_leaf.None r ≡ true → LineAt bytes r (rest_line r) p q →
    LeafFacts bytes (Some (heading_leaf.block r)) true p q (heading_leaf.unread (rest_line r) p)
    (heading_leaf.done bytes (rest_line r) p)
heading-facts options bytes r p q starts is =
    subst
    (λ (e : Point).
    LeafFacts bytes (Some (heading_leaf.block r)) true p e (heading_leaf.unread line p)
    (heading_leaf.done bytes line p)) (sym is.end)
    (leaf-around n.HeadingAtx OfHeadingAtx (record { is = refl; leaf = refl; no_part = refl; block = refl }) (record {
      unread_starts = title.unread_starts;
      starts = title.starts;
      stretch = title.stretch;
      unread_word = unread-word line p begins;
      word = read-word bytes line p begins;
      unread_ending = ends (linked_text text) (linked-others text);
      ending = ends (read_text bytes text) title.others;
      plain = λ h. heading-plain bytes line p h;
      reads = λ o none shut. heading-reads bytes r line p q o is begins none shut;
    }))
  where
    line : List ℕ
    line = rest_line r

    text : Option Chunk
    text = (title_of (rest_line r) p).text

    begins : is_heading (trim_start (rest_line r)) ≡ true
    begins = line-begins options r starts

    title : TitleFacts bytes (rest_line r) p
    title = title-facts bytes r (rest_line r) p q is begins

    ends : (es : List Event) → AreOthers es →
        Leads (in_leaf true) (in_leaf true) ((title_of (rest_line r) p).front ++ es ++ (title_of (rest_line r) p).back)
    ends es others =
        let title = title_of (rest_line r) p in
        others-lead (in_leaf true) (title.front ++ es ++ title.back) refl (title-others (rest_line r) p es others)

-- All that the frame asks of headings.
pub heading-laws : LeafLaws heading_resolver heading_leaf
heading-laws = record {
  looked = λ options on. trial-looked options;
  took = λ options cells h is few. trial-took options cells h is few;
  refused = λ options cells h asked. trial-refused options cells h;
  meets = λ options on r starts further. cc;
  shrinks = trial-shrinks;
  fits = λ options on. heading-fits options;
  adds_is = λ options on. heading-adds options;
  keeps_is = λ options on said text following r p stop at none ends short starts. refl;
  shut = λ ends options on. (λ cells p. refl, λ r. refl);
  finishes = λ ends options leaf r. refl;
  holds_is = λ options leaf r starts. refl;
  not_lazy = λ options on. (λ cells p. refl, λ r. refl);
  no_content = λ wants only options on. heading-no_content wants only.text options;
  set =
      λ ends options on r p es starts. heading-resolved (rest_line r) p (past_text (rest_line r) p) es
      (line-begins options r starts);
  lined = λ open_leaf plain options on r p starts lines. absurd (cc);
  unturned = λ ends options on r p starts. heading-unturned (rest_line r) p;
  unspanned = λ ends options on r p starts. heading-unspanned (rest_line r) p;
  unjoined = λ ends options on r p starts. heading-unjoined (rest_line r) p;
  alone = λ ends options on r p starts. heading-alone (rest_line r) p;
  nests = λ ends options on r p starts. heading-nests (rest_line r) p;
  facts = λ ends options on. heading-facts options;
}
