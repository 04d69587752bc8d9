-- The laws of thematic breaks.
use Rattle.std.proofs.Common.{refl, ◌≡◌, ℕ, Bool, true, ◌||◌, List, [], ◌∷◌, ap}
use Rattle.std.proofs.lemmas.Bool.{and_from, and_parts, eq-eqb}
use Rattle.std.specs.List.{list_all}
use Rattle.std.specs.Prelude.{◌&&◌, ◌==◌, count_by, nat_le, not}
use Rattle.md_engine.specs.declared.event.Name.TheVariants as n
use Rattle.proof_frame.specs.RestLine.{rest_line}
use Rattle.proof_leaf_laws.specs.Leaf.ThematicBreak.{break_leaf, is_ruled}
use Rattle.proof_frame.proofs.LeafLaws.{LeafLaws}
use Rattle.proof_frame.proofs.OutsideFacts.{LineResolver}
use Rattle.proof_leaf_laws.proofs.ThematicBreak.Facts.{break-facts, break-set, break-unspanned}
use Rattle.proof_leaf_laws.proofs.ThematicBreak.Kinds.{break-fits}
use Rattle.proof_leaf_laws.proofs.ThematicBreak.Runs.{break-adds, break-no_content}
use Rattle.proof_leaf_laws.proofs.ThematicBreak.Trial.{break-looked, break-refused, break-shrinks, break-took}
use Rattle.proof_leaf_laws.proofs.ThematicBreak.Unturned.{break-alone, break-nests, break-unturned}
use Rattle.md_engine.specs.declared.configuration.ParseOptions.{ParseOptions}
use Rattle.md_engine.specs.declared.tokenizer.held_leaf.HeldLeaf.{HeldLeaf}
use Rattle.md_meaning.specs.Leaves.{is_rule, is_rule_marker}
use Rattle.md_meaning.specs.Rest.{Rest, has_small_indent, is_white, trim_start}
use Rattle.md_meaning.specs.declared.outline.Word.TheVariants.{Break}
use Rattle.proof_frame.proofs.BareLine.{AreMarks, BareLine}
use Rattle.md_leaves.specs.HeadingSetext.{turns_nothing}
use Rattle.md_leaves.specs.HeadingSetextRule.{is_underline}

-- a rule is where one starts
ruled : (options : ParseOptions) (on : HeldLeaf) (r : Rest) → break_leaf.starts options on r ≡ true →
    is_ruled options r ≡ true
ruled options on r starts =
    (and_parts (is_ruled options r) (not (turns_nothing options on && is_underline (trim_start r.bytes))) starts).0

pub break-laws : (resolver : LineResolver) → LeafLaws resolver break_leaf
break-laws resolver = record {
  looked = break-looked;
  took = λ options cells h is few. break-took options cells h is;
  refused = λ options cells h asked. break-refused options cells h;
  meets = λ options on r starts further. cc;
  shrinks = break-shrinks;
  fits = break-fits;
  adds_is = λ options on said text following r p stop at none ends short starts.
      break-adds options said text following r p stop at none ends short (ruled options on r starts);
  keeps_is = λ options on said text following r p stop at none ends short starts. refl;
  shut = λ ends options on. (λ cells p. refl, λ r. refl);
  finishes = λ ends options leaf r. refl;
  holds_is = λ options leaf r starts. refl;
  not_lazy = λ options on. (λ cells p. refl, λ r. refl);
  no_content = λ wants only options on. break-no_content wants options;
  lined = λ open_leaf plain options on r p starts lines. absurd (cc);
  unturned = λ ends options on r p starts. break-unturned (rest_line r) p;
  unspanned = λ ends options on r p starts. break-unspanned (rest_line r) p;
  unjoined = λ ends options on r p starts. break-unspanned (rest_line r) p;
  alone = λ ends options on r p starts. break-alone (rest_line r) p;
  nests = λ ends options on r p starts. break-nests (rest_line r) p;
  set = λ ends options on r p es starts. break-set resolver (rest_line r) p es;
  facts = λ ends options on bytes r p q starts. break-facts options bytes r p q (ruled options on r starts);
}

-- A break is of nothing but its word.

rule-marks : (text : List ℕ) → is_rule text ≡ true → AreMarks text
rule-marks [] e = absurd (cc)
rule-marks (m ∷ bytes) e =
    let Mark : ℕ → Bool = λ (b : ℕ). (b == m) || is_white b in
    let both = and_parts (is_rule_marker m && list_all Mark bytes)
    (nat_le 2 (count_by (λ (b : ℕ). b == m) bytes)) e in
    record {
      marks =
          and_from (Mark m) (list_all Mark bytes) (ap (λ (t : Bool). t || is_white m) (eq-eqb m m refl))
          (and_parts (is_rule_marker m) (list_all Mark bytes) both.0).1;
      some = λ none. cc;
    }

pub break-bare : BareLine break_leaf
break-bare = record {
  word = Break;
  block = n.ThematicBreak;
  run = n.ThematicBreakSequence;
  names = refl;
  begins = λ on. refl;
  finishes = λ options leaf r. refl;
  added = λ options on line p. refl;
  unread = λ line p. refl;
  marked = λ options on r starts.
      rule-marks (trim_start r.bytes)
      (and_parts (options.constructs.thematic_break && has_small_indent options r) (is_rule (trim_start r.bytes))
      (ruled options on r starts)).1;
}
