-- Where the line definition has an underline, and of which depth; no leaf that is tried before it starts there.
use Rattle.std.proofs.Common.{◌≡◌, ℕ, Bool, true, false, cond, ◌&&◌, ◌||◌, List, [], ◌∷◌, refl, sym, ap, ap₂, ◌∙◌}
use Rattle.std.proofs.Common.{subst}
use Rattle.std.specs.Prelude.{◌==◌, Option, Some, None}
use Rattle.std.specs.List.{list_all}
use Rattle.std.proofs.lemmas.Bool.{and_left, eqb-true}
use Rattle.md_engine.specs.declared.configuration.ParseOptions.{ParseOptions}
use Rattle.md_engine.specs.declared.tokenizer.held_leaf.HeldLeaf.{HeldLeaf}
use Rattle.md_meaning.specs.Ascii.{equals_sign, hyphen}
use Rattle.md_meaning.specs.Bytes.{begins}
use Rattle.md_meaning.specs.Leaves as definition
use Rattle.md_meaning.specs.Leaves.{underline_depth}
use Rattle.md_meaning.specs.Rest.{Rest, has_small_indent, is_blank, is_white, trim, trim_end, trim_start}
use Rattle.md_meaning.specs.Texts.{first_byte}
use Rattle.md_leaves.specs.HeadingSetext.{may_turn}
use Rattle.md_leaves.specs.HeadingSetextRule.{is_run, is_underline}
use Rattle.md_leaves.proofs.TitleTexts.{front-stops}
use Rattle.proof_leaf_laws.specs.Leaf.HeadingSetext.{depth_of, setext_leaf}
use Rattle.proof_leaf_laws.proofs.HeadingSetext.Kinds.{run-one, run-other}
use Rattle.proof_leaf_laws.proofs.HeadingSetext.Trimmed.{trim-more}

-- Its depth.

-- what is left of a run without the whitespace after it is all the marker
run-all : (m : ℕ) (bs : List ℕ) → is_white m ≡ false → list_all (λ c. c == m) (trim_end bs) ≡ is_run m bs
run-all m [] dark = refl
run-all m (b ∷ bs) dark =
    ap (list_all (λ c. c == m)) (trim-more b bs) ∙ go (b == m) refl (is_blank (b ∷ bs)) refl (run-all m bs dark)
  where
    go : (x : Bool) → (b == m) ≡ x → (y : Bool) → is_blank (b ∷ bs) ≡ y →
        list_all (λ c. c == m) (trim_end bs) ≡ is_run m bs →
        list_all (λ c. c == m) (cond (is_blank (b ∷ bs)) [] (b ∷ trim_end bs)) ≡ is_run m (b ∷ bs)
    go true e y k more =
        let here : is_white b ≡ false = ap is_white (eqb-true b m e) ∙ dark in
        let black : is_blank (b ∷ bs) ≡ false = and_left (is_white b) (is_blank bs) here in
        ap (λ (x : Bool). list_all (λ c. c == m) (cond x [] (b ∷ trim_end bs))) black
        ∙ ap (λ (x : Bool). x && list_all (λ c. c == m) (trim_end bs)) e
        ∙ more
        ∙ sym (run-one m b bs e)
    go false e true k more =
        ap (λ (x : Bool). list_all (λ c. c == m) (cond x [] (b ∷ trim_end bs))) k ∙ sym (run-other m b bs e ∙ k)
    go false e false k more =
        ap (λ (x : Bool). list_all (λ c. c == m) (cond x [] (b ∷ trim_end bs))) k
        ∙ ap (λ (x : Bool). x && list_all (λ c. c == m) (trim_end bs)) e
        ∙ sym (run-other m b bs e ∙ k)

-- so by the line definition it is a run, if it begins with no whitespace
run-trims : (m b : ℕ) (bs : List ℕ) → is_white m ≡ false → is_white b ≡ false →
    definition.is_run m (trim_end (b ∷ bs)) ≡ is_run m (b ∷ bs)
run-trims m b bs dark black =
    ap (definition.is_run m) left ∙ sym (ap (list_all (λ c. c == m)) left) ∙ run-all m (b ∷ bs) dark
  where
    left : trim_end (b ∷ bs) ≡ b ∷ trim_end bs
    left =
        trim-more b bs ∙ ap (λ (x : Bool). cond x [] (b ∷ trim_end bs)) (ap (λ (x : Bool). x && is_blank bs) black)

-- the depth of what follows the indent
abbrev by_line : List ℕ → Option ℕ
by_line bs = cond (is_underline bs) (Some (cond (first_byte bs == equals_sign) 1 2)) None

-- by the line definition
abbrev by_runs : List ℕ → Option ℕ
by_runs text =
    cond (definition.is_run equals_sign text) (Some 1) (cond (definition.is_run hyphen text) (Some 2) None)

-- a run of another marker is none
no-run : (m b : ℕ) (bs : List ℕ) → (b == m) ≡ false → is_white b ≡ false → is_run m (b ∷ bs) ≡ false
no-run m b bs other black = run-other m b bs other ∙ ap (λ (x : Bool). x && is_blank bs) black

-- both are the same, after whitespace
depth-is : (b : ℕ) (bs : List ℕ) → is_white b ≡ false → by_runs (trim_end (b ∷ bs)) ≡ by_line (b ∷ bs)
depth-is b bs black =
    ap₂ (λ (x y : Bool). cond x (Some 1) (cond y (Some 2) None)) (run-trims equals_sign b bs refl black)
    (run-trims hyphen b bs refl black)
    ∙ go (b == equals_sign) refl (b == hyphen) refl
  where
    Same : ℕ → Type 0
    Same c =
        cond (is_run equals_sign (c ∷ bs)) (Some 1) (cond (is_run hyphen (c ∷ bs)) (Some 2) None) ≡ by_line (c ∷ bs)

    go : (x : Bool) → (b == equals_sign) ≡ x → (y : Bool) → (b == hyphen) ≡ y → Same b
    go true e y k = subst Same (sym (eqb-true b equals_sign e)) refl
    go false e true k = subst Same (sym (eqb-true b hyphen k)) refl
    go false e false k =
        ap₂ (λ (x y : Bool). cond x (Some 1) (cond y (Some 2) None)) (no-run equals_sign b bs e black)
        (no-run hyphen b bs k black)
        ∙ sym
        (ap₂ (λ (x y : Bool). cond ((x || y) && is_run b (b ∷ bs)) (Some (cond x 1 2)) None) e k)

-- also where nothing is
depth-at : (bs : List ℕ) → begins is_white bs ≡ false → by_runs (trim_end bs) ≡ by_line bs
depth-at [] black = refl
depth-at (b ∷ bs) black = depth-is b bs black

-- An underline, whatever it meets.
abbrev pub is_underlined : ParseOptions → Rest → Bool
is_underlined options r =
    options.constructs.heading_setext && has_small_indent options r && is_underline (trim_start r.bytes)

-- It is of the depth that its leaf says, where it meets text.
depth-found : (options : ParseOptions) (r : Rest) →
    underline_depth options r ≡ cond (is_underlined options r) (Some (depth_of r)) None
unfolding underline_depth
depth-found options r = go (options.constructs.heading_setext && has_small_indent options r)
  where
    go : (x : Bool) →
        cond x (by_runs (trim r.bytes)) None ≡
        cond (x && is_underline (trim_start r.bytes)) (Some (depth_of r)) None
    go true = depth-at (trim_start r.bytes) (front-stops is_white r.bytes)
    go false = refl

-- by whether it may turn the text, its leaf starts
pub starts-by : (options : ParseOptions) (on : HeldLeaf) (r : Rest) (x : Bool) → may_turn options on ≡ x →
    setext_leaf.starts options on r ≡ (x && is_underlined options r)
starts-by options on r x e =
    ap
    (λ (y : Bool).
    y && options.constructs.heading_setext && has_small_indent options r && is_underline (trim_start r.bytes)) e
    ∙ go x
  where
    go : (x : Bool) →
        (x && options.constructs.heading_setext && has_small_indent options r && is_underline (trim_start r.bytes)) ≡
        (x && is_underlined options r)
    go true = refl
    go false = refl

pub setext-found : (options : ParseOptions) (on : HeldLeaf) (r : Rest) → may_turn options on ≡ true →
    underline_depth options r ≡ cond (setext_leaf.starts options on r) (Some (depth_of r)) None
setext-found options on r may =
    depth-found options r
    ∙ ap (λ (x : Bool). cond x (Some (depth_of r)) None) (sym (starts-by options on r true may))

-- where none is, no line is one
pub none-underlined : (options : ParseOptions) (r : Rest) → underline_depth options r ≡ None →
    is_underlined options r ≡ false
none-underlined options r none = go (is_underlined options r) (sym (depth-found options r) ∙ none)
  where
    go : (x : Bool) → cond x (Some (depth_of r)) None ≡ (let o : Option ℕ = None in o) → x ≡ false
    go true e = cc
    go false e = refl

pub some-underlined : (options : ParseOptions) (r : Rest) (depth : ℕ) → underline_depth options r ≡ Some depth →
    is_underlined options r ≡ true
some-underlined options r depth some = go (is_underlined options r) (sym (depth-found options r) ∙ some)
  where
    go : (x : Bool) → cond x (Some (depth_of r)) None ≡ Some depth → x ≡ true
    go true e = refl
    go false e = cc
