-- Where the code of an expression starts: at a place of the unit behind which its registers are free, where the variables
-- of the file are alive, and the parallel ones of blocks that are alive have entries.
use Rattle.std.proofs.Common.{◌≡◌, ℕ, ◌≤◌, List, [], ◌∷◌, ◌++◌, arith, length, length-append, refl}
use Rattle.cstar_tree.specs.declared.typed.Variable.{Variable}
use Rattle.cstar_tree.specs.declared.typed.Variable.TheVariants as V
use Rattle.lower_base.specs.Drafts.{Draft, with_instr, with_step}
use Rattle.paris_code.specs.declared.instr.Instr.{Instr}
use Rattle.paris_code.specs.declared.program.Virtual.{Virtual}
use Rattle.paris_code.specs.Code.{CodeState}
use Rattle.code_follows.proofs.Settings.{AreOpenAt, At, OpenAmong, Setting, code_more, open_later, regs_more}
use Rattle.fields_follow.proofs.Locals.{IsNoHome, behind_homes}

module _ (g : Setting) (alive : Variable → Type 0) where
  -- the code stands at this place, where so many registers are taken and there are so many entries
  pub record Starts (s : CodeState) (place regs entries : ℕ) : Type 0 where
    pub stands : At g s place
    pub free : g.begins ≤ regs
    pub low : g.from ≤ place
    pub files : (k : ℕ) → alive (V.File k)
    pub opened : AreOpenAt g (OpenAmong g alive) place entries

  -- so it starts at a later place, where no fewer are taken
  pub starts_later : (s t : CodeState) (place regs entries later more_regs more_entries : ℕ) → place ≤ later → regs ≤ more_regs → entries ≤ more_entries → At g t later → Starts s place regs entries → Starts t later more_regs more_entries
  starts_later s t place regs entries later more_regs more_entries behind fewer less there here = record {
    stands = there;
    free = omega (arith, here.free, fewer);
    low = omega (arith, here.low, behind);
    files = here.files;
    opened = open_later g (OpenAmong g alive) place later entries more_entries behind less here.opened;
  }

  -- where there are more entries
  pub starts_wider : (s : CodeState) (place regs entries more : ℕ) → entries ≤ more → Starts s place regs entries → Starts s place regs more
  starts_wider s place regs entries more less here = starts_later s s place regs entries place regs more (omega arith) (omega arith) less here.stands here

  -- where there is one more
  pub starts_entry : {s : CodeState} {place regs : ℕ} (entries : List Virtual) (v : Virtual) → Starts s place regs (length entries) → Starts s place regs (length (entries ++ v ∷ []))
  starts_entry {s} {place} {regs} entries v here = let one = length-append entries (v ∷ []) in starts_wider s place regs (length entries) (length (entries ++ v ∷ [])) (omega (arith, one)) here

  pub same_entries : (i : Instr) (d : Draft) → length (with_instr i d).fields ≡ length d.fields
  unfolding with_instr with_step
  same_entries i d = refl

  -- behind an instruction
  pub starts_next : (i : Instr) (d : Draft) (s t : CodeState) → At g t (length (with_instr i d).code) → Starts s (length d.code) d.regs (length d.fields) → Starts t (length (with_instr i d).code) (with_instr i d).regs (length (with_instr i d).fields)
  starts_next i d s t there here =
      let longer = code_more g i d in
      let same = regs_more g i d in
      let entries = same_entries i d in
      starts_later s t (length d.code) d.regs (length d.fields) (length (with_instr i d).code) (with_instr i d).regs (length (with_instr i d).fields) (omega (arith, longer)) (omega (arith, same)) (omega (arith, entries)) there here

  -- an entry behind those that there are is the home of no variable that is open
  pub no_home : {s : CodeState} {place regs : ℕ} (entries entry : ℕ) → entries ≤ entry → Starts s place regs entries → IsNoHome g (OpenAmong g alive) entry
  no_home {s} {place} {regs} entries entry high here = behind_homes g (OpenAmong g alive) place entries entry here.opened high
