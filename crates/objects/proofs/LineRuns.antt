-- What each kind of line does to what lies ahead in its object.
use Rattle.std.proofs.Common.{◌≡◌, ℕ, zero, suc, ◌+◌, ◌-◌, ◌<◌, ◌≤◌, min, Bool, true, false, List, ◌∷◌, length, ℤ, Ok, Err, refl, ap, add-one, arith}
use native.Mathlib.Nat.{sub-zero}
use Rattle.table.specs.Description.{Description, map_at}
use Rattle.rules.specs.declared.faults.Failure.{Failure}
use Rattle.rules.specs.declared.steps.Got.{Got}
use Rattle.records.specs.declared.statements.ReadLine.{ReadLine}
use Rattle.records.specs.declared.statements.UseLine.{UseLine}
use Rattle.rules.specs.Trace.{out, pass, stop, bind, bind_assoc}
use Rattle.rules.specs.Checks.{Check, attempt, fault}
use Rattle.rules.specs.Lookups.{map_output}
use Rattle.rules.specs.Values.{is_zero}
use Rattle.rules.specs.Steps.{natural, element, mapped}
use Rattle.rules.specs.Code.{Code, finish, read, assign, map_read, use_of, code}
use Rattle.rules.specs.Reading.{Object, Objects, valued, counted, elements, objects, objects_to_end, used, run, write, value_item}
use Rattle.objects.specs.declared.frame.Frame.{Frame}
use Rattle.objects.specs.declared.frame.Frame.TheVariants.{Lines, After, Elements, Counted, Uncounted}
use Rattle.objects.specs.Ahead.{Inner, onto, with_names, state, frame_run, content_run, inner_run, code_run, height, wants, Reads, Uses, Fit, Room}
use Rattle.objects.proofs.Blocks.{following, if_code}

-- the lines after a line, as a frame
pub lines_fit : (d : Description) (line after : ℕ) (fs : List Frame) → Room d (following d line after) fs → Fit d (Lines (line + 1) after ∷ fs)
unfolding Fit wants
lines_fit d line after fs r = rw add-one (r.high, tt, r.fit)

module _ (d : Description) (bits : List Bool) (o : Object) (c : Inner) (p : ℕ) where
  pub finish_run : (obj : Objects) → code_run d bits o finish c p obj ≡ pass (inner_run d bits o c p obj)
  unfolding run bind
  finish_run obj = refl

  -- a value goes to a name
  module _ (line after name node : ℕ) where
    pub assign_fails : (f : Failure) → Err f ≡ valued d bits o (state p c) node → (obj : Objects)
        → code_run d bits o (assign line name node (following d line after)) c p obj ≡ stop (fault f.cause line f.node p)
    unfolding run bind attempt
    assign_fails f e obj = rw (← e) refl

    pub assign_run : (v : ℤ) → Ok v ≡ valued d bits o (state p c) node → (obj : Objects)
        → code_run d bits o (assign line name node (following d line after)) c p obj
        ≡ pass (inner_run d bits o (onto (Lines (line + 1) after) (with_names (write name v c.names) c)) p obj)
    unfolding run bind attempt content_run frame_run
    assign_run v e obj = rw (← e, add-one) refl

    pub assign_room : Room d (assign line name node (following d line after)) c.frames → Fit d (Lines (line + 1) after ∷ c.frames)
    unfolding height
    assign_room r = lines_fit d line after c.frames (record { high = r.high; fit = r.fit })

  -- one value is read
  module _ (line after : ℕ) (l : ReadLine) (one : l.count ≡ 0) where
    one_counted : (k : ℕ) → k ≡ 0 → counted d bits o (state p c) k ≡ Ok 1
    one_counted k e = rw e refl

    abbrev only_element : Check Got
    only_element =
        element bits o.window l (valued d bits o (state p c) l.width) (valued d bits o (state p c) l.lowest) (valued d bits o (state p c) l.highest) p

    pub one_fails : (f : Failure) → Err f ≡ only_element → (obj : Objects)
        → code_run d bits o (read line l (following d line after)) c p obj ≡ pass (stop (fault f.cause line f.node p))
    unfolding run bind attempt elements
    one_fails f e obj = rw (one_counted l.count one, ← e) refl

    pub one_run : (g : Got) → Ok g ≡ only_element → (obj : Objects)
        → code_run d bits o (read line l (following d line after)) c p obj
        ≡ pass (out (value_item o line 0 g) (inner_run d bits o (onto (After (line + 1) after) (with_names (write l.name g.value c.names) c)) g.after obj))
    unfolding run bind attempt elements content_run frame_run
    one_run g e obj = rw (one_counted l.count one, ← e, add-one) refl

    pub one_room : Room d (read line l (following d line after)) c.frames → Fit d (After (line + 1) after ∷ c.frames)
    unfolding height Fit wants
    one_room r = let h = r.high in rw add-one (omega arith, tt, r.fit)

  -- the elements of a read begin
  module _ (line after : ℕ) (l : ReadLine) where
    -- where it has a count
    pub some_counted : (k : ℕ) → 0 < k → counted d bits o (state p c) k ≡ natural 65535 (valued d bits o (state p c) k)
    some_counted zero h = absurd (omega arith)
    some_counted (suc k) h = refl

    pub read_fails : (f : Failure) → Err f ≡ counted d bits o (state p c) l.count → (obj : Objects)
        → code_run d bits o (read line l (following d line after)) c p obj ≡ stop (fault f.cause line f.node p)
    unfolding run bind attempt
    read_fails f e obj = rw (← e) refl

    pub read_run : (n : ℕ) → Ok n ≡ counted d bits o (state p c) l.count → (obj : Objects)
        → code_run d bits o (read line l (following d line after)) c p obj
        ≡ pass (inner_run d bits o (onto (Elements line l 0 n) (onto (Lines (line + 1) after) c)) p obj)
    unfolding run bind attempt content_run frame_run
    read_run n e obj =
        rw (← e, add-one, sub-zero) (ap pass (bind_assoc (elements d bits o line l n 0 (state p c)) (run d bits obj o (following d line after)) (content_run d bits obj o c.extension c.frames)))

    pub read_room : (n : ℕ) → Reads d line l → Room d (read line l (following d line after)) c.frames → Fit d (Elements line l 0 n ∷ Lines (line + 1) after ∷ c.frames)
    unfolding height Fit wants
    read_room n m r =
        let h = r.high in
        (omega arith, m, lines_fit d line after c.frames (record { high = omega arith; fit = r.fit }))

  -- an index is read, and its row's output handed out
  module _ (line after map name : ℕ) where
    pub map_fails : (f : Failure) → Err f ≡ mapped bits o.window (map_at d map).width (map_output d map) p → (obj : Objects)
        → code_run d bits o (map_read line map name (following d line after)) c p obj ≡ stop (fault f.cause line f.node p)
    unfolding run bind attempt
    map_fails f e obj = rw (← e) refl

    pub map_run : (g : Got) → Ok g ≡ mapped bits o.window (map_at d map).width (map_output d map) p → (obj : Objects)
        → code_run d bits o (map_read line map name (following d line after)) c p obj
        ≡ out (value_item o line 0 g) (inner_run d bits o (onto (Lines (line + 1) after) (with_names (write name g.value c.names) c)) g.after obj)
    unfolding run bind attempt content_run frame_run
    map_run g e obj = rw (← e, add-one) refl

    pub map_room : Room d (map_read line map name (following d line after)) c.frames → Fit d (Lines (line + 1) after ∷ c.frames)
    unfolding height
    map_room r = lines_fit d line after c.frames (record { high = r.high; fit = r.fit })

  -- the objects of a use begin
  module _ (line after : ℕ) (l : UseLine) where
    used_some : (k : ℕ) → 0 < k → (obj : Objects) → used d bits obj o line l k (state p c)
        ≡ attempt line p (natural 65535 (valued d bits o (state p c) k)) (λ n. pass (objects d bits obj o line l n 0 (state p c)))
    unfolding used
    used_some zero h obj = absurd (omega arith)
    used_some (suc k) h obj = refl

    used_none : (k : ℕ) → k ≡ 0 → (obj : Objects) → used d bits obj o line l k (state p c) ≡ pass (objects_to_end d bits obj o line l l.most 0 (state p c))
    unfolding used
    used_none k e obj = rw e refl

    pub use_fails : 0 < l.count → (f : Failure) → Err f ≡ natural 65535 (valued d bits o (state p c) l.count) → (obj : Objects)
        → code_run d bits o (use_of line l (following d line after)) c p obj ≡ stop (fault f.cause line f.node p)
    unfolding run bind attempt
    use_fails h f e obj = rw (used_some l.count h obj, ← e) refl

    pub use_run : 0 < l.count → (n : ℕ) → Ok n ≡ natural 65535 (valued d bits o (state p c) l.count) → (obj : Objects)
        → code_run d bits o (use_of line l (following d line after)) c p obj
        ≡ pass (inner_run d bits o (onto (Counted line l 0 n) (onto (Lines (line + 1) after) c)) p obj)
    unfolding run bind attempt content_run frame_run
    use_run h n e obj =
        rw (used_some l.count h obj, ← e, add-one, sub-zero)
        (ap pass (bind_assoc (objects d bits obj o line l n 0 (state p c)) (run d bits obj o (following d line after)) (content_run d bits obj o c.extension c.frames)))

    pub use_to_end : l.count ≡ 0 → (obj : Objects)
        → code_run d bits o (use_of line l (following d line after)) c p obj
        ≡ pass (inner_run d bits o (onto (Uncounted line l 0) (onto (Lines (line + 1) after) c)) p obj)
    unfolding run bind content_run frame_run
    use_to_end h obj =
        rw (used_none l.count h obj, add-one, sub-zero)
        (ap pass (bind_assoc (objects_to_end d bits obj o line l l.most 0 (state p c)) (run d bits obj o (following d line after)) (content_run d bits obj o c.extension c.frames)))

    pub use_room : Room d (use_of line l (following d line after)) c.frames → (suc (suc (length c.frames)) ≤ 20) × Fit d (Lines (line + 1) after ∷ c.frames)
    unfolding height
    use_room r =
        let h = r.high in
        (omega arith, lines_fit d line after c.frames (record { high = omega arith; fit = r.fit }))

    pub counted_room : (n : ℕ) → Uses d line l → Room d (use_of line l (following d line after)) c.frames
        → Fit d (Counted line l 0 n ∷ Lines (line + 1) after ∷ c.frames)
    unfolding Fit wants
    counted_room n m r = let u = use_room r in (omega (arith, u.0), m, u.1)

    pub to_end_room : Uses d line l → Room d (use_of line l (following d line after)) c.frames
        → Fit d (Uncounted line l 0 ∷ Lines (line + 1) after ∷ c.frames)
    unfolding Fit wants
    to_end_room m r = let u = use_room r in (omega (arith, u.0), m, u.1)

  -- one of two blocks is chosen
  module _ (line after node first second : ℕ) where
    pub branch_fails : (f : Failure) → Err f ≡ valued d bits o (state p c) node → (obj : Objects)
        → code_run d bits o (if_code d line after node first second) c p obj ≡ stop (fault f.cause line f.node p)
    unfolding run bind attempt
    branch_fails f e obj = rw (← e) refl

    abbrev in_first : ℕ
    in_first = min first after

    abbrev in_second : ℕ
    in_second = min second (after - min first after)

    abbrev rest_code : Code
    rest_code = code d.lines (suc line + in_first + in_second) (after - in_first - in_second)

    pub branch_first : (v : ℤ) → Ok v ≡ valued d bits o (state p c) node → is_zero v ≡ false → (obj : Objects)
        → code_run d bits o (if_code d line after node first second) c p obj
        ≡ pass (inner_run d bits o (onto (Lines (line + 1) in_first) (onto (Lines (line + 1 + in_first + in_second) (after - in_first - in_second)) c)) p obj)
    unfolding run bind attempt content_run frame_run
    branch_first v e z obj =
        rw (← e, add-one, z)
        (ap pass (bind_assoc (run d bits obj o (following d line in_first) (state p c)) (run d bits obj o rest_code) (content_run d bits obj o c.extension c.frames)))

    pub branch_second : (v : ℤ) → Ok v ≡ valued d bits o (state p c) node → is_zero v ≡ true → (obj : Objects)
        → code_run d bits o (if_code d line after node first second) c p obj
        ≡ pass (inner_run d bits o (onto (Lines (line + 1 + in_first) in_second) (onto (Lines (line + 1 + in_first + in_second) (after - in_first - in_second)) c)) p obj)
    unfolding run bind attempt content_run frame_run
    branch_second v e z obj =
        rw (← e, add-one, z)
        (ap pass (bind_assoc (run d bits obj o (code d.lines (suc line + in_first) in_second) (state p c)) (run d bits obj o rest_code) (content_run d bits obj o c.extension c.frames)))

    pub first_room : Room d (if_code d line after node first second) c.frames
        → Fit d (Lines (line + 1) in_first ∷ Lines (line + 1 + in_first + in_second) (after - in_first - in_second) ∷ c.frames)
    unfolding height Fit wants
    first_room r = let h = r.high in rw add-one (omega arith, tt, (omega arith, tt, r.fit))

    pub second_room : Room d (if_code d line after node first second) c.frames
        → Fit d (Lines (line + 1 + in_first) in_second ∷ Lines (line + 1 + in_first + in_second) (after - in_first - in_second) ∷ c.frames)
    unfolding height Fit wants
    second_room r = let h = r.high in rw add-one (omega arith, tt, (omega arith, tt, r.fit))
