-- The first word of a text stands between its first byte that is no blank and the next blank.
use Rattle.std.proofs.Common.{◌≡◌, ℕ, suc, ◌+◌, ◌-◌, ◌<◌, Bool, true, false, cond, not, ltb, List, [], ◌∷◌, length, take, drop, Some, None, Option, sym, refl, ap, ◌∙◌, arith}
use Rattle.std.specs.List.{onto_first, position_or_len}
use Rattle.std.specs.Option.{unwrap_or}
use Rattle.std.proofs.lemmas.List.{at_drop_more, take_rest, length-drop, nil_from_length}
use Rattle.std.proofs.lemmas.List.Sums.{passes_at_first, prefix_len-le-length}
use Rattle.std.proofs.lemmas.Bool.{not-true}
use Rattle.radio_watch.specs.Script.{blank, at_word, words}

abbrev pub no_blank : ℕ → Bool
no_blank b = not (blank b)

-- where the first word begins and ends
abbrev pub blank_length : List ℕ → ℕ
blank_length s = position_or_len no_blank s

abbrev pub word_length : List ℕ → ℕ
word_length s = position_or_len blank s

skip_one : (b : ℕ) (bs : List ℕ) (v : Bool) → blank b ≡ v → words bs ≡ words (drop (blank_length bs) bs) → words (b ∷ bs) ≡ words (drop (blank_length (b ∷ bs)) (b ∷ bs))
skip_one b bs true e more =
    let first : words (b ∷ bs) ≡ words bs = ap (λ (v : Bool). cond v (words bs) (cond (at_word bs) (onto_first b (words bs)) ((b ∷ []) ∷ words bs))) e in
    let k : blank_length (b ∷ bs) ≡ suc (blank_length bs) = ap (λ (v : Bool). cond (not (not v)) (1 + blank_length bs) 0) e ∙ omega arith in
    first ∙ more ∙ sym (ap (λ (n : ℕ). words (drop n (b ∷ bs))) k)
skip_one b bs false e more = ap (λ (n : ℕ). words (drop n (b ∷ bs))) (sym (ap (λ (v : Bool). cond (not (not v)) (1 + blank_length bs) 0) e))

-- the blanks in front are in no word
words_skip : (s : List ℕ) → words s ≡ words (drop (blank_length s) s)
words_skip [] = refl
words_skip (b ∷ bs) = skip_one b bs (blank b) refl (words_skip bs)

-- and the first word stands behind them
words_stop : (s : List ℕ) → blank_length s < length s → at_word (drop (blank_length s) s) ≡ true
words_stop s h = at_drop_more at_word s (blank_length s) 0 h ∙ passes_at_first no_blank s 0 h

-- a word goes on to the next blank
cut_one : (b c : ℕ) (cs : List ℕ) (v : Bool) → blank b ≡ false → blank c ≡ v → (blank c ≡ false → words (c ∷ cs) ≡ take (word_length (c ∷ cs)) (c ∷ cs) ∷ words (drop (word_length (c ∷ cs)) (c ∷ cs))) → words (b ∷ c ∷ cs) ≡ take (word_length (b ∷ c ∷ cs)) (b ∷ c ∷ cs) ∷ words (drop (word_length (b ∷ c ∷ cs)) (b ∷ c ∷ cs))
cut_one b c cs true h e more = simp (h, e)
cut_one b c cs false h e more =
    let W : List (List ℕ) = words (c ∷ cs) in
    let l : words (b ∷ c ∷ cs) ≡ cond (not (blank c)) (onto_first b W) ((b ∷ []) ∷ W) = ap (λ (v : Bool). cond v W (cond (not (blank c)) (onto_first b W) ((b ∷ []) ∷ W))) h in
    let m : cond (not (blank c)) (onto_first b W) ((b ∷ []) ∷ W) ≡ onto_first b W = ap (λ (v : Bool). cond (not v) (onto_first b W) ((b ∷ []) ∷ W)) e in
    let k : word_length (b ∷ c ∷ cs) ≡ suc (word_length (c ∷ cs)) = ap (λ (v : Bool). cond (not v) (1 + word_length (c ∷ cs)) 0) h ∙ omega arith in
    l ∙ m ∙ ap (onto_first b) (more e) ∙ sym (ap (λ (n : ℕ). take n (b ∷ c ∷ cs) ∷ words (drop n (b ∷ c ∷ cs))) k)

words_cut : (b : ℕ) (bs : List ℕ) → blank b ≡ false → words (b ∷ bs) ≡ take (word_length (b ∷ bs)) (b ∷ bs) ∷ words (drop (word_length (b ∷ bs)) (b ∷ bs))
words_cut b [] h = simp h
words_cut b (c ∷ cs) h = cut_one b c cs (blank c) h refl (words_cut c cs)

cut_at : (t : List ℕ) → at_word t ≡ true → words t ≡ take (word_length t) t ∷ words (drop (word_length t) t)
cut_at [] h = absurd (let z : ◌≡◌ {A = ℕ} 0 1 = cc in omega arith)
cut_at (b ∷ bs) h = words_cut b bs (not-true (blank b) h)

-- the first place of a list that passes a test, or none, as `position` gives it
abbrev pub found_at : (ℕ → Bool) → List ℕ → Option ℕ
found_at test s = cond (ltb (position_or_len test s) (length s)) (Some (position_or_len test s)) None

-- what `position` gives, or else the length
pub cut_place : (test : ℕ → Bool) (s : List ℕ) (r : Option ℕ) (n : ℕ) → r ≡ found_at test s → n ≡ unwrap_or r (length s) → n ≡ position_or_len test s
cut_place test s r n e en = grind (arith, prefix_len-le-length (λ b. not (test b)) s)

-- t is what the text s has from its first word on
module _ (s t : List ℕ) (n : ℕ) (en : n ≡ blank_length s) (et : t ≡ take (length s - n) (drop n s)) where
  from_word : t ≡ drop (blank_length s) s
  from_word = et ∙ take_rest s n ∙ ap (λ (k : ℕ). drop k s) en

  pub no_word : length t ≡ 0 → words s ≡ []
  no_word h = words_skip s ∙ ap words (sym from_word ∙ nil_from_length t h)

  pub found_word : (w r : List ℕ) (m : ℕ) → (length t ≡ 0 → ⊥) → m ≡ word_length t → w ≡ take m t → r ≡ drop m t → words s ≡ w ∷ words r
  found_word w r m ne em ew er =
      let h : blank_length s < length s = omega (arith, ap length from_word, length-drop (blank_length s) s) in
      let skip = words_skip s in
      let cut = cut_at t (ap at_word from_word ∙ words_stop s h) in
      let same : words (drop (blank_length s) s) ≡ words t = ap words (sym from_word) in
      let front : take m t ≡ take (word_length t) t = ap (λ (k : ℕ). take k t) em in
      let back : words (drop m t) ≡ words (drop (word_length t) t) = ap (λ (k : ℕ). words (drop k t)) em in
      let rest : words r ≡ words (drop m t) = ap words er in
      cc
