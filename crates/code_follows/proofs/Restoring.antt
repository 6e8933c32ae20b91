-- Where code leaves contexts it loads those that were saved.
use Rattle.std.proofs.Common.{◌≡◌, ◌∙◌, ℕ, suc, ◌+◌, ◌≤◌, List, [], ◌∷◌, ◌++◌, length, reverse, take, sym, ap, subst, arith}
use Rattle.std.proofs.lemmas.List.{reverse-append}
use Rattle.cstar_tree.specs.declared.typed.Variable.{Variable}
use Rattle.lower_base.specs.Drafts.{Draft, with_instr}
use Rattle.lower_stmt.specs.Statements.{loaded, restored}
use Rattle.paris_code.specs.declared.instr.Instr.TheVariants as I
use Rattle.paris_code.specs.declared.operands.Field.{Field}
use Rattle.paris_code.specs.Code.{CodeState}
use Rattle.source_meaning.specs.State.{State}
use Rattle.code_follows.proofs.Besides.{sim_saying, under_held}
use Rattle.code_follows.proofs.Executing.{Jumped}
use Rattle.code_follows.proofs.Following.{IsKept, Sim, keeps_all, keeps_on}
use Rattle.code_follows.proofs.Growing.{Extended, as_it_was, extended}
use Rattle.code_follows.proofs.Jumping.{none_restored}
use Rattle.code_follows.proofs.Settings.{At, Begun, Held, Setting, Within, and_one, begun_later, earlier, onto, start, stay}

-- Loading so many of the saved contexts, the newest first, leads to where this is held of the memory.
pub record Restores (g : Setting) (held : Held) (contexts : List Field) (newest : ℕ) : Type 1 where
  pub loads : (alive : Variable → Type 0) (d : Draft) (s : CodeState) (st : State) → Begun g alive d → At g s (length d.code) → Sim g alive st s → Within g (restored contexts newest d) → Jumped g alive held d s st (length (restored contexts newest d).code)

-- where none is loaded what was held still is
pub restores_none : (g : Setting) (contexts : List Field) (newest : ℕ) → newest ≡ 0 → Restores g g.held contexts newest
restores_none g contexts newest none = record {
  loads = λ alive d s st free at sim within. record {
    t = s;
    go = stay g s;
    at = at ∙ ap (λ (e : Draft). start g + length e.code) (sym (none_restored contexts newest d none));
    sim = sim;
    keeps = keeps_all g d s;
  };
}

-- contexts that are loaded are code
loads_grow : (g : Setting) (contexts : List Field) (d : Draft) → (n : ℕ) × Extended d n (loaded contexts d)
unfolding loaded
loads_grow g [] d = (0, as_it_was d)
loads_grow g (saved ∷ older) d =
    let first : Draft = with_instr (I.LoadContext saved) d in
    let more = loads_grow g older first in
    (1 + more.0, extended d first (loaded older first) 1 more.0 (and_one g (I.LoadContext saved) d) more.1)

pub restored_more : (g : Setting) (contexts : List Field) (newest : ℕ) (d : Draft) → (n : ℕ) × Extended d n (restored contexts newest d)
unfolding restored
restored_more g contexts newest d = loads_grow g (take newest (reverse contexts)) d

-- the newest is loaded first
newest_first : (contexts : List Field) (saved : Field) (k : ℕ) (d : Draft) → restored (contexts ++ saved ∷ []) (k + 1) d ≡ restored contexts k (with_instr (I.LoadContext saved) d)
unfolding restored loaded
newest_first contexts saved k d =
    ap (λ (list : List Field). loaded (take (k + 1) list) d) (reverse-append contexts (saved ∷ [])) ∙ ap (λ (n : ℕ). loaded (take n (saved ∷ reverse contexts)) d) (one_more k)
  where
    one_more : (n : ℕ) → n + 1 ≡ suc n
    one_more n = omega arith

module _ (g : Setting) (saved : Field) (held : Held) (from entries upto : ℕ) where
  abbrev there : Setting
  there = under_held g held from entries upto

  -- A part of the unit under one context more lies between these places, where this is held of the memory; and from
  -- wherever that is held the saved context is loaded, and what was held before the part is held again.
  pub record Inside : Type 1 where
    pub low : g.from ≤ from
    pub more : g.entries ≤ entries
    pub high : upto ≤ g.upto
    pub loads : (alive : Variable → Type 0) (d : Draft) (s : CodeState) (st : State) → At g s (length d.code) → Sim there alive st s → Within g (with_instr (I.LoadContext saved) d) → Jumped g alive g.held d s st (length (with_instr (I.LoadContext saved) d).code)

  kept_so : (d : Draft) (r : ℕ) → IsKept there d r → IsKept g d r
  unfolding IsKept
  kept_so d r kept = kept

  -- so one context more is loaded before those that are saved around it
  pub restores_inside : Inside → (out : Held) (contexts : List Field) (newest : ℕ) → Restores g out contexts newest → Restores there out (contexts ++ saved ∷ []) (newest + 1)
  restores_inside inside out contexts newest outer = record {
    loads = λ alive d s st free at sim within.
        let back : Draft = with_instr (I.LoadContext saved) d in
        let all : Draft = restored contexts newest back in
        let same = newest_first contexts saved newest d in
        let w : Within there all = subst (λ (e : Draft). Within there e) same within in
        let whole : Within g all = record { more = w.more; code = w.code; entries = w.entries; fields = w.fields; homes = w.homes; homes_are = w.homes_are; regs = w.regs; own = w.own; upto = let up = w.upto in let high = inside.high in omega (arith, up, high) } in
        let grown = restored_more g contexts newest back in
        let begun : Begun g alive d = record { regs = free.regs; code = let c = free.code in let low = inside.low in omega (arith, c, low); fields = let f = free.fields in let more = inside.more in omega (arith, f, more); opened = free.opened } in
        let first = inside.loads alive d s st at sim (earlier g back all grown.0 grown.1 whole) in
        let rest = outer.loads alive back first.t st (begun_later g alive d back 1 (and_one g (I.LoadContext saved) d) begun) first.at first.sim whole in
        subst (λ (e : Draft). Jumped there alive out d s st (length e.code)) (sym same) (record {
          t = rest.t;
          go = let go = onto g s first.t rest.t first.go rest.go in record { by = go.by; below = go.below };
          at = rest.at;
          sim = sim_saying g alive st rest.t rest.t.at rest.t.memory rest.sim.memory rest.sim;
          keeps = λ r kept. keeps_on g d back 1 s first.t rest.t (and_one g (I.LoadContext saved) d) first.keeps rest.keeps r (kept_so d r kept);
        });
  }
