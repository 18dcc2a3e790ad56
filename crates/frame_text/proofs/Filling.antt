-- Bytes written one after the other into a block.
use Rattle.std.proofs.Common.{◌≡◌, ℕ, zero, suc, ◌-◌, ◌<◌, ◌≤◌, ◌↔◌, List, [], ◌∷◌, ◌++◌, length, take, drop, set, replicate, Ok, Err, IsOk, OnOk, OnErr, Result, sym, refl, ap, ◌∙◌, subst, append_assoc, arith, length-append}
use Rattle.std.proofs.lemmas.List.{take_all, take-append-le, length-take}
use native.Mathlib.Nat.{sub-zero}
use Rattle.frame_text.specs.declared.answers.Block.{Block}
use Rattle.frame_text.specs.Answers.{filled, block_of, whole_block}
use Rattle.frame_text.specs.Blocks.{Holds, Adds}

pub filled_push : (n : ℕ) (t : List ℕ) (b : ℕ) → set (filled n t) (length t) b ≡ filled n (t ++ b ∷ [])
filled_push zero t b = refl
filled_push (suc n) [] b = refl
filled_push (suc n) (c ∷ t) b = ap (λ u. c ∷ u) (filled_push n t b)

pub filled_full : (n : ℕ) (t us : List ℕ) → n ≤ length t → filled n t ≡ filled n (t ++ us)
filled_full zero t us full = refl
filled_full (suc n) [] us full = absurd (omega arith)
filled_full (suc n) (c ∷ t) us full = ap (λ u. c ∷ u) (filled_full n t us (omega arith))

pub filled_whole : (n : ℕ) (t : List ℕ) → length t ≤ n → filled n t ≡ t ++ replicate (n - length t) 0
filled_whole zero [] fits = refl
filled_whole (suc n) [] fits =
    ap (λ u. 0 ∷ u) (filled_whole n [] (omega arith)) ∙ rw (sub-zero n, sub-zero (suc n))
filled_whole zero (c ∷ t) fits = absurd (omega arith)
filled_whole (suc n) (c ∷ t) fits =
    ap (λ u. c ∷ u) (filled_whole n t (omega arith)) ∙ ap (λ k. c ∷ t ++ replicate k 0) (omega arith)

-- one byte more, where there is room and where there is none
pub adds_byte : {R E : Type 0} (r : Result R E) (a b : Block) (x : ℕ) → (IsOk r ↔ (length a.text.items < 32)) →
    OnOk r (b.text.items ≡ a.text.items ++ x ∷ []) → OnErr r (b.text ≡ a.text) → OnErr r (length a.text.items ≡ 32) →
    Adds a (x ∷ []) b
adds_byte (Ok u) a b x room more same full t h =
    let few : length (take 32 t) < 32 = subst (λ bs. length bs < 32) h.bytes (room.0 refl) in
    let short = length-take 32 t in let longer = length-append t (x ∷ []) in
    record {
      bytes = more ∙ ap (λ bs. bs ++ x ∷ []) (h.bytes ∙ take_all 32 t (omega arith)) ∙
          sym (take_all 32 (t ++ x ∷ []) (omega arith));
    }
adds_byte (Err e) a b x room more same full t h =
    let all : length (take 32 t) ≡ 32 = sym (ap length h.bytes) ∙ full in
    let short = length-take 32 t in
    record { bytes = ap (λ v. v.items) same ∙ h.bytes ∙ sym (take-append-le 32 t (x ∷ []) (omega arith)) }

-- what is written, and zeros after it
blank : (n : ℕ) → replicate n 0 ≡ filled n []
blank zero = refl
blank (suc n) = ap (λ u. 0 ∷ u) (blank n)

pub filled_up : (n : ℕ) (t : List ℕ) → take n t ++ drop (length (take n t)) (replicate n 0) ≡ filled n t
filled_up zero t = refl
filled_up (suc n) [] = ap (λ u. 0 ∷ u) (blank n)
filled_up (suc n) (c ∷ t) = ap (λ u. c ∷ u) (filled_up n t)

pub adds_then : (a b c : Block) (xs ys : List ℕ) → Adds a xs b → Adds b ys c → Adds a (xs ++ ys) c
adds_then a b c xs ys f g t h =
    let P : List ℕ → Type 0 = λ u. Holds c u in subst P (append_assoc t xs ys) (g (t ++ xs) (f t h))

pub adds_same : (a b : Block) (xs ys : List ℕ) → xs ≡ ys → Adds a xs b → Adds a ys b
adds_same a b xs ys e f = let P : List ℕ → Type 0 = λ u. Adds a u b in subst P e f

-- a text with room for its LF stands in its block whole
pub whole_text : (text : List ℕ) → length text ≤ 31 → block_of text ≡ whole_block text
whole_text text fits =
    let more = length-append text (10 ∷ []) in
    filled_whole 32 (text ++ 10 ∷ []) (omega arith) ∙
    append_assoc text (10 ∷ []) (replicate (32 - length (text ++ 10 ∷ [])) 0) ∙
    ap (λ k. text ++ 10 ∷ replicate k 0) (omega arith)
