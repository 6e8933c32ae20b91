-- What one instruction of the code does from a state of the front end.
use Rattle.std.proofs.Common.{◌≡◌, ℕ, ◌+◌, ◌-◌, ◌*◌, ◌%◌, ◌<◌, Bool, true, false, if◌then◌else◌, List, [], ◌∷◌, ◌++◌, length, take, slice_index, Option, Some, None, refl, sym, ◌∙◌, ap, subst, arith}
use Rattle.std.specs.Prelude.{◌==◌, ◌||◌, not, map, slice_set}
use Rattle.std.proofs.lemmas.List.{length_push}
use Rattle.std.proofs.Math.Nat.{mod-add-mod, mod-eq_of_lt}
use Rattle.std.proofs.Math.Seq.{get_or-append_seam, take-append_seam}
use Rattle.std.proofs.lemmas.Nat.{mul-mod_first}
use Rattle.cstar_base.specs.declared.operators.Place.{Place}
use Rattle.cstar_base.specs.declared.faults.RunFault.{RunFault}
use Rattle.cstar_base.specs.Faults.{run_number_of}
use Rattle.paris_code.specs.declared.instr.Instr.{Instr}
use Rattle.paris_code.specs.declared.instr.Instr.TheVariants as I
use Rattle.vp_sets.specs.Positions.{position_count, number_at}
use Rattle.cstar_base.specs.Numbers.{number_of}
use Rattle.cstar_base.specs.declared.formats.NumberFormat.{NumberFormat}
use Rattle.paris_code.specs.declared.operands.RegisterCoordinate.{RegisterCoordinate}
use Rattle.paris_code.specs.Checking.{is_outside}
use Rattle.paris_code.specs.Operands.{register_of}
use Rattle.paris_code.specs.declared.program.Image.{Image}
use Rattle.paris_code.specs.Code.{CodeState, Rest, Mark, End, Broken, Next, Goes, Ends, Fault, Stopped, Done, step, begun, begun_at, applied, controlled, set_or, arguments_at, given}
use Rattle.paris_code.specs.Kinds.{is_parallel}
use Rattle.paris_code.specs.Memory.{BitMemory}
use Rattle.cstar_base.specs.Numerals.{word_text}
use Rattle.paris_code.specs.Operands.{result_of}
use Rattle.paris_code.specs.Scalar.{computed, any_register_outside, is_read_signed}
use Rattle.paris_code.specs.Shapes.{shapes_of}
use Rattle.paris_code.specs.Units.{start_at, IsAt}
use Rattle.front_end.specs.declared.ask.Ask.{Ask}
use Rattle.front_end.specs.declared.ask.Ask.TheVariants as A
use Rattle.front_end.specs.Front.{State, AsksFor, Begins, Prints, joined, answered_from}

-- the instruction stands there, and it does more than set a register
abbrev pub IsControl : Image → State → Instr → Type 0
IsControl image old instr = IsAt image old.at instr × (is_parallel instr ≡ false) × (computed (shapes_of image) instr old.registers ≡ None)

begins : (image : Image) (instr : Instr) (old : State) (next : BitMemory → Rest → List ℕ → Next) → IsAt image old.at instr → ((m : BitMemory) (i : Rest) (o : List ℕ) → begun image instr (joined old m i o) ≡ next m i o) → Begins image old next
unfolding step
begins image instr old next here same = λ m i o. ap (begun_at image (joined old m i o)) here ∙ same m i o

-- how an instruction is begun, by whether the phases do it and by the register that it sets
choice : Image → Instr → CodeState → Bool → Option (ℕ × ℕ) → Next
choice image instr s parallel set = if parallel then applied (shapes_of image) instr s else set_or set s (controlled image instr s)

begun_choice : (image : Image) (instr : Instr) (s : CodeState) (parallel : Bool) (set : Option (ℕ × ℕ)) → is_parallel instr ≡ parallel → computed (shapes_of image) instr s.registers ≡ set → begun image instr s ≡ choice image instr s parallel set
unfolding begun choice
begun_choice image instr s parallel set p c = ap (λ b. choice image instr s b (computed (shapes_of image) instr s.registers)) p ∙ ap (choice image instr s parallel) c

begins_control : (image : Image) (instr : Instr) (old : State) → IsControl image old instr → Begins image old (λ m i o. controlled image instr (joined old m i o))
unfolding choice
begins_control image instr old is = begins image instr old _ is.0 (λ m i o. begun_choice image instr (joined old m i o) false None is.1 is.2)

-- the ask and the state are these
pub asked : (image : Image) (old : State) (ask other : Ask) (new state : State) → ask ≡ other → new ≡ state → AsksFor image old other state → AsksFor image old ask new
asked image old ask other new state a n h = subst (λ (x : Ask). AsksFor image old x new) (sym a) (subst (λ (x : State). AsksFor image old other x) (sym n) h)

pub asks_set : (image : Image) (instr : Instr) (old : State) (dest value : ℕ) → IsAt image old.at instr → is_parallel instr ≡ false → computed (shapes_of image) instr old.registers ≡ Some (dest, value) → old.wanted ≡ None
    → AsksFor image old A.Ran (record old { at = old.at + 1; registers = slice_set old.registers dest value })
unfolding choice
asks_set image instr old dest value here scalar is ready =
    (ready, begins image instr old _ here (λ m i o. begun_choice image instr (joined old m i o) false (Some (dest, value)) scalar is))

pub asks_apply : (image : Image) (instr : Instr) (old : State) → IsAt image old.at instr → is_parallel instr ≡ true
    → AsksFor image old (A.Apply old.at) (record old { at = old.at + 1; args = arguments_at instr old.registers; wanted = result_of instr })
unfolding choice applied
asks_apply image instr old here parallel =
    (instr, refl, here, parallel, refl, begins image instr old _ here (λ m i o. begun_choice image instr (joined old m i o) true _ parallel refl))

pub asks_jump : (image : Image) (target : ℕ) (old : State) → IsControl image old (I.FrontJump target) → old.wanted ≡ None → AsksFor image old A.Ran (record old { at = target })
asks_jump image target old is ready = (ready, begins_control image (I.FrontJump target) old is)

pub asks_jump_zero : (image : Image) (x target : ℕ) (old : State) → IsControl image old (I.FrontJumpZero x target) → old.wanted ≡ None
    → AsksFor image old A.Ran (record old { at = if slice_index old.registers x == 0 then target else old.at + 1 })
asks_jump_zero image x target old is ready = (ready, begins_control image (I.FrontJumpZero x target) old is)

pub asks_jump_nonzero : (image : Image) (x target : ℕ) (old : State) → IsControl image old (I.FrontJumpNonzero x target) → old.wanted ≡ None
    → AsksFor image old A.Ran (record old { at = if not (slice_index old.registers x == 0) then target else old.at + 1 })
asks_jump_nonzero image x target old is ready = (ready, begins_control image (I.FrontJumpNonzero x target) old is)

pub asks_call : (image : Image) (unit : ℕ) (old : State) → IsControl image old (I.FrontCall unit) → old.wanted ≡ None
    → AsksFor image old A.Ran (record old { at = start_at image unit; returns = old.returns ++ (old.at + 1) ∷ [] })
asks_call image unit old is ready = (ready, begins_control image (I.FrontCall unit) old is)

pub asks_return : (image : Image) (old : State) → IsControl image old I.FrontReturn → old.wanted ≡ None
    → AsksFor image old A.Ran (record old { at = slice_index old.returns (length old.returns - 1); returns = take (length old.returns - 1) old.returns })
asks_return image old is ready = (ready, begins_control image I.FrontReturn old is)

turn_asks : (image : Image) (old : State) (none : Bool) → old.wanted ≡ None → Begins image old (λ m i o. if none then Ends Stopped (joined old m i o) else Goes (joined (record old { at = old.at + 1; turns = old.turns - 1 }) m i o))
    → AsksFor image old (if none then A.Stopped else A.Ran) (if none then old else record old { at = old.at + 1; turns = old.turns - 1 })
turn_asks image old true ready h = (ready, h)
turn_asks image old false ready h = (ready, h)

pub asks_turn : (image : Image) (old : State) → IsControl image old I.FrontTurn → old.wanted ≡ None
    → AsksFor image old (if old.turns == 0 then A.Stopped else A.Ran) (if old.turns == 0 then old else record old { at = old.at + 1; turns = old.turns - 1 })
asks_turn image old is ready = turn_asks image old (old.turns == 0) ready (begins_control image I.FrontTurn old is)

pub asks_turn_spent : (image : Image) (old : State) → IsControl image old I.FrontTurn → (old.turns == 0) ≡ false → old.wanted ≡ None
    → AsksFor image old A.Ran (record old { at = old.at + 1; turns = old.turns - 1 })
asks_turn_spent image old is some ready =
    (ready, λ m i o. begins_control image I.FrontTurn old is m i o ∙ ap (λ b. if b then Ends Stopped (joined old m i o) else Goes (joined (record old { at = old.at + 1; turns = old.turns - 1 }) m i o)) some)

check_asks : (image : Image) (old new : State) (fails : Bool) (fault : RunFault) (place : Place) → new.wanted ≡ None → Begins image old (λ m i o. if fails then Ends (Fault fault place None) (joined new m i o) else Goes (joined new m i o))
    → AsksFor image old (if fails then A.Fault (run_number_of fault) place else A.Ran) new
check_asks image old new true fault place ready h = (fault, refl, ready, h)
check_asks image old new false fault place ready h = (ready, h)

pub asks_target : (image : Image) (old : State) (instr : Instr) (fails : Bool) (fault : RunFault) (place : Place) → IsControl image old instr → old.wanted ≡ None
    → ((m : BitMemory) (i : Rest) (o : List ℕ) → controlled image instr (joined old m i o) ≡ (if fails then Ends (Fault fault place None) (joined (record old { at = old.at + 1 }) m i o) else Goes (joined (record old { at = old.at + 1 }) m i o)))
    → AsksFor image old (if fails then A.Fault (run_number_of fault) place else A.Ran) (record old { at = old.at + 1 })
asks_target image old instr fails fault place is ready same =
    check_asks image old (record old { at = old.at + 1 }) fails fault place ready (λ m i o. begins_control image instr old is m i o ∙ same m i o)

pub asks_put : (image : Image) (bytes : List ℕ) (old : State) → IsControl image old (I.FrontPutBytes bytes) → old.wanted ≡ None
    → AsksFor image old (A.Literal old.at) (record old { at = old.at + 1 })
asks_put image bytes old is ready = (bytes, refl, is.0, ready, begins_control image (I.FrontPutBytes bytes) old is)

pub asks_digits : (image : Image) (format : NumberFormat) (x : ℕ) (old : State) (ask : Ask) → IsControl image old (I.FrontPut format x) → old.wanted ≡ None → Prints ask (word_text format (slice_index old.registers x))
    → AsksFor image old ask (record old { at = old.at + 1 })
asks_digits image format x old (A.Digits text len) is ready prints =
    (prints.0, ready, λ m i o. begins_control image (I.FrontPut format x) old is m i o ∙ ap (λ bytes. Goes (joined (record old { at = old.at + 1 }) m i (o ++ bytes))) (sym prints.1))
asks_digits image format x old _ is ready prints = absurd prints

given_answered : (r : ℕ) (old : State) (m : BitMemory) (bytes : List ℕ) (mark : Mark) (o : List ℕ)
    → given r (joined old m (record { bytes = bytes; mark = mark }) o) bytes mark ≡ answered_from (record old { at = old.at + 1; wanted = Some r }) m bytes mark o
given_answered r old m (byte ∷ bytes) mark o = refl
given_answered r old m [] End o = refl
given_answered r old m [] Broken o = refl

pub asks_byte : (image : Image) (r : ℕ) (old : State) → IsControl image old (I.FrontGetByte r) → AsksFor image old A.Byte (record old { at = old.at + 1; wanted = Some r })
asks_byte image r old is = (refl, λ m i o. begins_control image (I.FrontGetByte r) old is m i o ∙ given_answered r old m i.bytes i.mark o)

-- the last of a list, and those before it
pub last_of : (xs ys : List ℕ) (x : ℕ) → xs ≡ ys ++ x ∷ [] → (slice_index xs (length xs - 1) ≡ x) × (take (length xs - 1) xs ≡ ys)
last_of xs ys x e =
    let count : length xs - 1 ≡ length ys = omega (arith, ap length e ∙ length_push ys x) in (
      ap (λ n. slice_index xs n) count ∙ ap (λ (l : List ℕ). slice_index l (length ys)) e ∙ get_or-append_seam ys x [] 0,
      ap (λ n. take n xs) count ∙ ap (λ (l : List ℕ). take (length ys) l) e ∙ take-append_seam ys (x ∷ []),
    )

-- the number behind the earlier axes, taken modulo m at each of them
pub address_step : (number extent x positions rest m : ℕ) → (((number * extent % m + x) % m) * positions + rest) % m ≡ (number * (extent * positions) + (x * positions + rest)) % m
address_step number extent x positions rest m =
    let first : ((number * extent % m + x) % m) ≡ (number * extent + x) % m = mod-add-mod (number * extent) m x in
    let whole : (number * extent + x) * positions + rest ≡ number * (extent * positions) + (x * positions + rest) = grind arith in
    ap (λ n. (n * positions + rest) % m) first
    ∙ sym (mod-add-mod (((number * extent + x) % m) * positions) m rest)
    ∙ ap (λ n. (n + rest) % m) (mul-mod_first (number * extent + x) positions m)
    ∙ mod-add-mod ((number * extent + x) * positions) m rest
    ∙ ap (λ n. n % m) whole

-- the first axis and the later ones
pub outside_first : (extents es : List ℕ) (e : ℕ) (list cs : List RegisterCoordinate) (c : RegisterCoordinate) (registers : List ℕ) → extents ≡ e ∷ es → list ≡ c ∷ cs
    → any_register_outside extents list registers ≡ (is_outside e (number_of 32 (is_read_signed c) (slice_index registers (register_of c))) || any_register_outside es cs registers)
unfolding any_register_outside
outside_first extents es e list cs c registers these those =
    ap (λ (l : List ℕ). any_register_outside l list registers) these ∙ ap (λ (l : List RegisterCoordinate). any_register_outside (e ∷ es) l registers) those

pub address_first : (number e x : ℕ) (extents es list rs registers : List ℕ) (r m : ℕ) → extents ≡ e ∷ es → list ≡ r ∷ rs → x ≡ slice_index registers r
    → ((((number * e % m + x) % m) * position_count es + number_at es (map (λ k. slice_index registers k) rs)) % m) ≡ (number * position_count extents + number_at extents (map (λ k. slice_index registers k) list)) % m
unfolding position_count number_at
address_first number e x extents es list rs registers r m these those is =
    address_step number e x (position_count es) (number_at es (map (λ k. slice_index registers k) rs)) m
    ∙ ap (λ v. (number * (e * position_count es) + (v * position_count es + number_at es (map (λ k. slice_index registers k) rs))) % m) is
    ∙ sym (ap (λ (l : List ℕ). (number * position_count l + number_at l (map (λ k. slice_index registers k) list)) % m) these
    ∙ ap (λ (l : List ℕ). (number * position_count (e ∷ es) + number_at (e ∷ es) (map (λ k. slice_index registers k) l)) % m) those)

empty_of : (xs : List ℕ) → length xs ≡ 0 → xs ≡ []
empty_of [] h = refl
empty_of (x ∷ xs) h = absurd (omega arith)

pub address_none : (number m : ℕ) (extents coordinates : List ℕ) → length extents ≡ 0 → number < m → number ≡ (number * position_count extents + number_at extents coordinates) % m
unfolding position_count number_at
address_none number m extents coordinates none small =
    sym (mod-eq_of_lt small) ∙ ap (λ n. n % m) (omega arith) ∙ sym (ap (λ (l : List ℕ). (number * position_count l + number_at l coordinates) % m) (empty_of extents none))

pub outside_no_axis : (extents : List ℕ) (list : List RegisterCoordinate) (registers : List ℕ) → length extents ≡ 0 → false ≡ any_register_outside extents list registers
unfolding any_register_outside
outside_no_axis [] list registers h = refl
outside_no_axis (e ∷ es) list registers h = absurd (omega arith)

pub outside_none : (extents : List ℕ) (list : List RegisterCoordinate) (registers : List ℕ) → length list ≡ 0 → false ≡ any_register_outside extents list registers
unfolding any_register_outside
outside_none [] list registers h = refl
outside_none (e ∷ es) [] registers h = refl
outside_none (e ∷ es) (c ∷ cs) registers h = absurd (omega arith)

-- none of the instructions that do more than set a register, but for the end
abbrev pub is_other : Instr → Bool
is_other (I.FrontCheckTarget set place coordinates) = false
is_other (I.FrontCheckDivisor place x) = false
is_other (I.FrontJump target) = false
is_other (I.FrontJumpZero x target) = false
is_other (I.FrontJumpNonzero x target) = false
is_other I.FrontTurn = false
is_other (I.FrontCall unit) = false
is_other I.FrontReturn = false
is_other (I.FrontPutBytes bytes) = false
is_other (I.FrontPut format x) = false
is_other (I.FrontGetByte r) = false
is_other _ = true

controlled_other : (image : Image) (instr : Instr) (s : CodeState) → is_other instr ≡ true → controlled image instr s ≡ Ends Done s
controlled_other image (I.FrontCheckTarget set place coordinates) s h = cc
controlled_other image (I.FrontCheckDivisor place x) s h = cc
controlled_other image (I.FrontJump target) s h = cc
controlled_other image (I.FrontJumpZero x target) s h = cc
controlled_other image (I.FrontJumpNonzero x target) s h = cc
controlled_other image I.FrontTurn s h = cc
controlled_other image (I.FrontCall unit) s h = cc
controlled_other image I.FrontReturn s h = cc
controlled_other image (I.FrontPutBytes bytes) s h = cc
controlled_other image (I.FrontPut format x) s h = cc
controlled_other image (I.FrontGetByte r) s h = cc
controlled_other image _ s h = refl

pub asks_halt : (image : Image) (instr : Instr) (old : State) → IsControl image old instr → old.wanted ≡ None → is_other instr ≡ true → AsksFor image old A.Halted old
asks_halt image instr old is ready other = (ready, λ m i o. begins_control image instr old is m i o ∙ controlled_other image instr (joined old m i o) other)
