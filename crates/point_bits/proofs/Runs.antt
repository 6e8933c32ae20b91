-- Runs of the positions of a block, one position after the other.
use Rattle.std.proofs.Common.{◌≡◌, ◌≢◌, ℕ, ◌+◌, ◌-◌, ◌*◌, ◌/◌, ◌%◌, ◌<◌, ◌≤◌, ◌⊎◌, List, length, get_or, refl, sym, ◌∙◌, ap, inl, inr, add-mul, arith}
use Rattle.std.specs.Int.{bit_at}
use Rattle.std.proofs.lemmas.Bool.{cases_lt, cases_eq}
use Rattle.std.proofs.lemmas.Nat.{mul-le}
use Rattle.paris_code.specs.declared.operands.Field.{Field}
use Rattle.point_bits.specs.Strings.{RunPut, byte_bit, string_at}

-- the bits of a position stand before those of the next ones
pub rows_apart : (p q width : ℕ) → p < q → p * width + width ≤ q * width
rows_apart p q width l = omega (arith, mul-le (p + 1) width q width (omega arith) (omega arith), add-mul p 1 width)

pub put_none : (first width : ℕ) (run : Field) (block : ℕ) (words bytes : List ℕ) → first ≤ 512 * block → RunPut first width run block words bytes bytes
put_none first width run block words bytes e = record {
  long = refl;
  inside = λ p i at b l h. absurd (omega arith);
  outside = λ p i b apart. refl;
}

module _ (p width : ℕ) (run : Field) (block : ℕ) (words first old new : List ℕ) (here : p / 512 ≡ block) (fits : run.offset + run.len ≤ width)
    (before : RunPut p width run block words first old) (long : length new ≡ length old)
    (inside : (n : ℕ) → p * width + run.offset ≤ n → n < p * width + run.offset + run.len → byte_bit new n ≡ bit_at (get_or words (p % 512) 0) (n - (p * width + run.offset)))
    (outside : (n : ℕ) → (n < p * width + run.offset) ⊎ (p * width + run.offset + run.len ≤ n) → byte_bit new n ≡ byte_bit old n) where
  other : (q i : ℕ) → i < width → q ≢ p → string_at width new q i ≡ string_at width old q i
  other q i b apart = elim (cases_lt q p) [
    | inl l ↦ outside (q * width + i) (inl (omega (arith, rows_apart q p width l)))
    | inr g ↦ outside (q * width + i) (inr (omega (arith, rows_apart p q width (omega arith))))
  ]

  pub put_more : RunPut (p + 1) width run block words first new
  put_more = record {
    long = long ∙ before.long;
    inside = λ q i at b l h. elim (cases_eq q p) [
      | inr n ↦ other q i (omega arith) n ∙ before.inside q i at (omega arith) l h
      | inl e ↦
          ap (λ r. string_at width new r i) e
          ∙ inside (p * width + i) (omega arith) (omega arith)
          ∙ ap (λ j. bit_at (get_or words (p % 512) 0) j) (let f : p * width + i - (p * width + run.offset) ≡ i - run.offset = omega arith in f)
          ∙ ap (λ r. bit_at (get_or words (r % 512) 0) (i - run.offset)) (sym e)
    ];
    outside = λ q i b apart. elim (cases_eq q p) [
      | inr n ↦ other q i b n ∙ before.outside q i b (elim apart [
        | inl a ↦ inl a
        | inr r ↦ inr (elim r [ inl s ↦ inl (omega arith) | inr s ↦ inr s ])
      ])
      | inl e ↦
          ap (λ r. string_at width new r i) e
          ∙ elim apart [
            | inl a ↦ absurd (a (ap (λ r. r / 512) e ∙ here))
            | inr r ↦ elim r [
              | inl s ↦ absurd (omega arith)
              | inr s ↦ elim s [
                | inl l ↦ outside (p * width + i) (inl (omega arith))
                | inr g ↦ outside (p * width + i) (inr (omega arith))
              ]
            ]
          ]
          ∙ ap (λ r. string_at width old r i) (sym e) ∙ before.outside q i b (elim apart [
            | inl a ↦ inl a
            | inr r ↦ inr (elim r [ inl s ↦ inl (omega arith) | inr s ↦ inr s ])
          ])
    ];
  }
