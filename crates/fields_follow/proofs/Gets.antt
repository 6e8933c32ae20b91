-- The steps of a get from neighbours: each leads round the ends of the grid.
use Rattle.std.proofs.Common.{◌≡◌, ◌∙◌, ℕ, suc, ◌+◌, ◌<◌, ◌==◌, ◌&&◌, Bool, true, false, List, [], ◌∷◌, ◌++◌, length, Option, Some, None, refl, sym, ap, subst, arith, if◌then◌else◌, append_assoc, length-append}
use Rattle.std.proofs.Math.Seq.{get_or-append_seam, set-append_seam}
use Rattle.std.specs.Prelude.{is_some, slice_index, slice_set}
use Rattle.std.proofs.lemmas.Bool.{eqb-true}
use Rattle.cstar_base.specs.Numbers.{number_of}
use Rattle.cstar_tree.specs.declared.typed.TExpr.{TExpr, Row_of-TExpr, end_of-TExpr, items-the_row-TExpr, more_of-TExpr}
use Rattle.lower_comm.specs.declared.news.NewsStep.{NewsStep}
use Rattle.lower_comm.specs.Messages.{moving_part, moving_steps}
use Rattle.lower_comm.specs.News.{all_go_by_news, step_of}
use Rattle.paris_code.specs.declared.operands.GridStep.{GridStep}
use Rattle.paris_code.specs.declared.operands.Konst.TheVariants as K
use Rattle.paris_code.specs.Memory.{processors}
use Rattle.phase_meaning.proofs.Alike.{coordinate_below}
use Rattle.vp_sets.specs.Positions.{are_inside, are_positive, coordinate, coordinates, moved, number_at, position_count, shifted}
use Rattle.vp_sets.proofs.PositionLaws.{count_positive, coordinates_inside, coordinates_of_number, extent_positive, inside_after_set, length-coordinates, number_of_coordinates}
use Rattle.code_follows.proofs.Settings.{Setting}
use Rattle.fields_follow.specs.Fragment.{AreSteps}
use Rattle.fields_follow.proofs.Extents.{NameExtents}
use Rattle.fields_follow.proofs.Hops.{AreMoves, origin}
use Rattle.fields_follow.proofs.Instructions.{extents, shapes}
use Rattle.fields_follow.proofs.Wrapping.{moved_within, still_there}

-- one index an axis
pub names_long : {k : _} (extents : List ℕ) (row : Row_of-TExpr k) → NameExtents extents row → length (items-the_row-TExpr _ row) ≡ length extents
unfolding NameExtents
names_long [] end_of-TExpr names = refl
names_long (extent ∷ extents) (more_of-TExpr index rest) names = ap suc (names_long extents rest names.1)
names_long extents row names = absurd names

-- all of them go by NEWS
pub all_go : {k : _} (set axis : ℕ) (row : Row_of-TExpr k) → AreSteps set axis row → all_go_by_news set axis (items-the_row-TExpr _ row) ≡ true
unfolding AreSteps all_go_by_news
all_go set axis end_of-TExpr are = refl
all_go set axis (more_of-TExpr index rest) are = ap (λ (o : Option NewsStep). is_some o && all_go_by_news set (axis + 1) (items-the_row-TExpr _ rest)) are.0.1.1 ∙ all_go set (axis + 1) rest are.1

-- the coordinate on an axis to which a step leads, round the ends
unfoldable pub coordinate_behind : List ℕ → ℕ → Option NewsStep → ℕ → ℕ
coordinate_behind ys axis None q = 0
coordinate_behind ys axis (Some step) q = moved (slice_index ys axis) (coordinate ys q axis) (number_of 32 true step.by)

-- those to which indexes lead from a position, from this axis on
unfoldable pub coordinates_behind : List ℕ → ℕ → ℕ → List TExpr → ℕ → List ℕ
coordinates_behind ys of axis [] q = []
coordinates_behind ys of axis (index ∷ indexes) q = coordinate_behind ys axis (step_of of axis index) q ∷ coordinates_behind ys of (axis + 1) indexes q

module _ (g : Setting) (set : ℕ) (positive : are_positive (extents g set).own ≡ true) where
  abbrev xs : List ℕ
  xs = (extents g set).own

  -- the steps lead to the coordinates of the indexes, the later axes first
  abbrev Leads : ℕ → List ℕ → List TExpr → ℕ → Type 0
  Leads axis front indexes q =
      AreMoves g set (moving_steps set axis indexes) × (are_inside xs (front ++ coordinates_behind xs set axis indexes q) ≡ true)
      × (origin g set (moving_steps set axis indexes) q ≡ number_at xs (front ++ coordinates_behind xs set axis indexes q))

  -- one axis more
  one_axis : (axis : ℕ) (front : List ℕ) (c : ℕ) (step : NewsStep) (later : List GridStep) (behind : List ℕ) (q : ℕ) → axis ≡ length front → axis < length xs → coordinate xs q axis ≡ c → AreMoves g set later
      → are_inside xs (front ++ c ∷ behind) ≡ true → origin g set later q ≡ number_at xs (front ++ c ∷ behind)
      → AreMoves g set (moving_part axis (Some step) ++ later) × (are_inside xs (front ++ coordinate_behind xs axis (Some step) q ∷ behind) ≡ true)
      × (origin g set (moving_part axis (Some step) ++ later) q ≡ number_at xs (front ++ coordinate_behind xs axis (Some step) q ∷ behind))
  unfolding moving_part AreMoves origin coordinate_behind shifted coordinate
  one_axis axis front c step later behind q at there own are inside same = by (step.by == 0) refl
    where
      m : ℕ
      m = moved (slice_index xs axis) (coordinate xs q axis) (number_of 32 true step.by)

      low : m < slice_index xs axis
      low = moved_within (slice_index xs axis) (coordinate xs q axis) (number_of 32 true step.by) (extent_positive xs axis positive there)

      put : slice_set (front ++ c ∷ behind) axis m ≡ front ++ m ∷ behind
      put = ap (λ (n : ℕ). slice_set (front ++ c ∷ behind) n m) at ∙ set-append_seam front c behind m

      still_inside : are_inside xs (front ++ m ∷ behind) ≡ true
      still_inside = ap (are_inside xs) (sym put) ∙ inside_after_set xs (front ++ c ∷ behind) axis m inside there low

      all_coordinates : coordinates xs (number_at xs (front ++ c ∷ behind)) ≡ front ++ c ∷ behind
      all_coordinates = coordinates_of_number xs (front ++ c ∷ behind) positive inside

      by : (b : Bool) → step.by == 0 ≡ b → AreMoves g set ((if b then [] else record { axis = axis; step = K.Imm step.by } ∷ []) ++ later) × (are_inside xs (front ++ m ∷ behind) ≡ true)
          × (origin g set ((if b then [] else record { axis = axis; step = K.Imm step.by } ∷ []) ++ later) q ≡ number_at xs (front ++ m ∷ behind))
      by true none =
          let still : step.by ≡ 0 = eqb-true step.by 0 none in
          let stays : c ≡ m = sym own ∙ sym (still_there (slice_index xs axis) (coordinate xs q axis) (coordinate_below xs q axis positive there)) ∙ ap (λ (k : ℕ). moved (slice_index xs axis) (coordinate xs q axis) (number_of 32 true k)) (sym still) in
          (are, still_inside, same ∙ ap (λ (n : ℕ). number_at xs (front ++ n ∷ behind)) stays)
      by false some = (
        ((step.by, refl), (positive, there), are),
        still_inside,
        ap (λ (n : ℕ). number_at xs (slice_set (coordinates xs n) axis (moved (slice_index xs axis) (slice_index (coordinates xs n) axis) (number_of 32 true step.by)))) same
            ∙ ap (λ (cs : List ℕ). number_at xs (slice_set cs axis (moved (slice_index xs axis) (slice_index cs axis) (number_of 32 true step.by)))) all_coordinates
            ∙ ap (λ (n : ℕ). number_at xs (slice_set (front ++ c ∷ behind) axis (moved (slice_index xs axis) n (number_of 32 true step.by)))) (ap (slice_index (front ++ c ∷ behind)) at ∙ get_or-append_seam front c behind 0 ∙ sym own)
            ∙ ap (number_at xs) put,
      )

  each_leads : {k : _} (axis : ℕ) (row : Row_of-TExpr k) (front back : List ℕ) (q : ℕ) → q < position_count xs → AreSteps set axis row → axis ≡ length front → coordinates xs q ≡ front ++ back → length (items-the_row-TExpr _ row) ≡ length back
      → Leads axis front (items-the_row-TExpr _ row) q
  unfolding AreSteps moving_steps coordinates_behind AreMoves origin coordinate
  each_leads axis end_of-TExpr front [] q below are at all long = (tt, ap (are_inside xs) (sym all) ∙ coordinates_inside xs q positive, sym (ap (number_at xs) (sym all) ∙ number_of_coordinates xs q positive below))
  each_leads axis end_of-TExpr front (c ∷ back) q below are at all long = cc
  each_leads axis (more_of-TExpr index rest) front [] q below are at all long = cc
  each_leads axis (more_of-TExpr index rest) front (c ∷ back) q below are at all long =
      let (moves, inside, same) = each_leads (axis + 1) rest (front ++ c ∷ []) back q below are.1 (ap (λ (n : ℕ). n + 1) at ∙ sym (length-append front (c ∷ []))) (all ∙ sym (append_assoc front (c ∷ []) back)) (let l = long in omega (arith, l)) in
      let behind : List ℕ = coordinates_behind xs set (axis + 1) (items-the_row-TExpr _ rest) q in
      let joined : (front ++ c ∷ []) ++ behind ≡ front ++ c ∷ behind = append_assoc front (c ∷ []) behind in
      let own : coordinate xs q axis ≡ c = ap (slice_index (coordinates xs q)) at ∙ ap (λ (cs : List ℕ). slice_index cs (length front)) all ∙ get_or-append_seam front c back 0 in
      let there : axis < length xs = (let a = length-coordinates xs q in let b : length (coordinates xs q) ≡ length front + length (c ∷ back) = ap length all ∙ length-append front (c ∷ back) in omega (arith, a, b, at)) in
      subst (λ (o : Option NewsStep). AreMoves g set (moving_part axis o ++ moving_steps set (axis + 1) (items-the_row-TExpr _ rest)) × (are_inside xs (front ++ coordinate_behind xs axis o q ∷ behind) ≡ true)
      × (origin g set (moving_part axis o ++ moving_steps set (axis + 1) (items-the_row-TExpr _ rest)) q ≡ number_at xs (front ++ coordinate_behind xs axis o q ∷ behind))) (sym are.0.1.1)
      (one_axis axis front c are.0.1.0 (moving_steps set (axis + 1) (items-the_row-TExpr _ rest)) behind q at there own moves (ap (are_inside xs) (sym joined) ∙ inside) (same ∙ ap (number_at xs) joined))

  -- so the steps of a get lead to the position that its indexes name
  pub steps_move : {k : _} (row : Row_of-TExpr k) → AreSteps set 0 row → length (items-the_row-TExpr _ row) ≡ length xs → AreMoves g set (moving_steps set 0 (items-the_row-TExpr _ row))
  steps_move row are long = (each_leads 0 row [] (coordinates xs 0) 0 (count_positive xs positive) are refl refl (long ∙ sym (length-coordinates xs 0))).0

  pub steps_lead : {k : _} (row : Row_of-TExpr k) (q : ℕ) → AreSteps set 0 row → length (items-the_row-TExpr _ row) ≡ length xs → q < processors (shapes g) set
      → origin g set (moving_steps set 0 (items-the_row-TExpr _ row)) q ≡ number_at xs (coordinates_behind xs set 0 (items-the_row-TExpr _ row) q)
  steps_lead row q are long below = (each_leads 0 row [] (coordinates xs q) q below are refl refl (long ∙ sym (length-coordinates xs q))).2
