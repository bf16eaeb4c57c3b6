-- Tasks: their invocations and their ends.
use Rattle.std.specs.Prelude.{◌≡◌, ℕ, zero, suc, List, [], ◌∷◌, ◌++◌, Some, codes}
use Rattle.session_model.specs.Transcript.{done, not_running}
use Rattle.worked_examples.specs.Files.{lines, file_replayed}

abbrev pub QueuedInvocation : Type 0
QueuedInvocation =
    file_replayed
    (lines (codes "input go = NULL;" ∷
    codes "task t (x) { x * 2 }" ∷
    codes "on w (input$go) { invoke t(input$go); }" ∷
    codes "text o { status(t) }" ∷
    codes "text r { result(t) }" ∷ []))
    (lines (codes "s recv {\"method\":\"init\",\"data\":{\".clientdata_output_o_hidden\":false,\".clientdata_output_r_hidden\":false}}" ∷
    codes "s recv {\"method\":\"update\",\"data\":{\"go\":1}}" ∷
    codes "s recv {\"method\":\"update\",\"data\":{\"go\":2}}" ∷
    codes "s end t" ∷
    codes "s end t" ∷ []))
    ≡ Some (record {
      output = lines (codes "s send {\"config\":{\"sessionId\":\"s\",\"user\":null,\"workerId\":\"\"}}" ∷
          codes "s send {\"busy\":\"busy\"}" ∷
          codes "s send {\"progress\":{\"message\":{\"id\":\"o\"},\"type\":\"binding\"}}" ∷
          codes "s send {\"recalculating\":{\"name\":\"o\",\"status\":\"recalculating\"}}" ∷
          codes "s send {\"recalculating\":{\"name\":\"o\",\"status\":\"recalculated\"}}" ∷
          codes "s send {\"progress\":{\"message\":{\"id\":\"r\"},\"type\":\"binding\"}}" ∷
          codes "s send {\"recalculating\":{\"name\":\"r\",\"status\":\"recalculating\"}}" ∷
          codes "s send {\"recalculating\":{\"name\":\"r\",\"status\":\"recalculated\"}}" ∷
          codes "s send {\"errors\":{\"r\":{\"message\":\"\",\"type\":[\"shiny.silent.error\"]}},\"inputMessages\":[],\"values\":{\"o\":\"initial\"}}" ∷
          codes "s send {\"busy\":\"idle\"}" ∷
          codes "s send {\"busy\":\"busy\"}" ∷
          codes "s send {\"progress\":{\"message\":{\"id\":\"o\"},\"type\":\"binding\"}}" ∷
          codes "s send {\"recalculating\":{\"name\":\"o\",\"status\":\"recalculating\"}}" ∷
          codes "s send {\"recalculating\":{\"name\":\"o\",\"status\":\"recalculated\"}}" ∷
          codes "s send {\"progress\":{\"message\":{\"id\":\"r\"},\"type\":\"binding\"}}" ∷
          codes "s send {\"recalculating\":{\"name\":\"r\",\"status\":\"recalculating\"}}" ∷
          codes "s send {\"recalculating\":{\"name\":\"r\",\"status\":\"recalculated\"}}" ∷
          codes "s send {\"errors\":{},\"inputMessages\":[],\"values\":{\"o\":\"running\"}}" ∷
          codes "s send {\"busy\":\"idle\"}" ∷
          codes "s send {\"busy\":\"busy\"}" ∷
          codes "s send {\"errors\":{},\"inputMessages\":[],\"values\":{}}" ∷
          codes "s send {\"busy\":\"idle\"}" ∷
          codes "s send {\"busy\":\"busy\"}" ∷
          codes "s send {\"progress\":{\"message\":{\"id\":\"o\"},\"type\":\"binding\"}}" ∷
          codes "s send {\"recalculating\":{\"name\":\"o\",\"status\":\"recalculating\"}}" ∷
          codes "s send {\"recalculating\":{\"name\":\"o\",\"status\":\"recalculated\"}}" ∷
          codes "s send {\"progress\":{\"message\":{\"id\":\"r\"},\"type\":\"binding\"}}" ∷
          codes "s send {\"recalculating\":{\"name\":\"r\",\"status\":\"recalculating\"}}" ∷
          codes "s send {\"recalculating\":{\"name\":\"r\",\"status\":\"recalculated\"}}" ∷
          codes "s send {\"errors\":{},\"inputMessages\":[],\"values\":{\"o\":\"running\"}}" ∷
          codes "s send {\"busy\":\"idle\"}" ∷
          codes "s send {\"busy\":\"busy\"}" ∷
          codes "s send {\"progress\":{\"message\":{\"id\":\"o\"},\"type\":\"binding\"}}" ∷
          codes "s send {\"recalculating\":{\"name\":\"o\",\"status\":\"recalculating\"}}" ∷
          codes "s send {\"recalculating\":{\"name\":\"o\",\"status\":\"recalculated\"}}" ∷
          codes "s send {\"progress\":{\"message\":{\"id\":\"r\"},\"type\":\"binding\"}}" ∷
          codes "s send {\"recalculating\":{\"name\":\"r\",\"status\":\"recalculating\"}}" ∷
          codes "s send {\"recalculating\":{\"name\":\"r\",\"status\":\"recalculated\"}}" ∷
          codes "s send {\"errors\":{},\"inputMessages\":[],\"values\":{\"o\":\"success\",\"r\":\"4\"}}" ∷
          codes "s send {\"busy\":\"idle\"}" ∷
          codes "s over ended" ∷ []);
      end = done;
    })

abbrev pub EndOfATaskThatDoesNotRun : Type 0
EndOfATaskThatDoesNotRun =
    file_replayed
    (lines (codes "input go = NULL;" ∷
    codes "task t (x) { x * 2 }" ∷
    codes "on w (input$go) { invoke t(input$go); }" ∷
    codes "text o { status(t) }" ∷
    codes "text r { result(t) }" ∷ []))
    (lines (codes "s recv {\"method\":\"init\",\"data\":{\".clientdata_output_o_hidden\":false,\".clientdata_output_r_hidden\":false}}" ∷
    codes "s recv {\"method\":\"update\",\"data\":{\"go\":1}}" ∷
    codes "s recv {\"method\":\"update\",\"data\":{\"go\":2}}" ∷
    codes "s end t" ∷
    codes "s end t" ∷
    codes "s end t" ∷ []))
    ≡ Some (record {
      output = lines (codes "s send {\"config\":{\"sessionId\":\"s\",\"user\":null,\"workerId\":\"\"}}" ∷
          codes "s send {\"busy\":\"busy\"}" ∷
          codes "s send {\"progress\":{\"message\":{\"id\":\"o\"},\"type\":\"binding\"}}" ∷
          codes "s send {\"recalculating\":{\"name\":\"o\",\"status\":\"recalculating\"}}" ∷
          codes "s send {\"recalculating\":{\"name\":\"o\",\"status\":\"recalculated\"}}" ∷
          codes "s send {\"progress\":{\"message\":{\"id\":\"r\"},\"type\":\"binding\"}}" ∷
          codes "s send {\"recalculating\":{\"name\":\"r\",\"status\":\"recalculating\"}}" ∷
          codes "s send {\"recalculating\":{\"name\":\"r\",\"status\":\"recalculated\"}}" ∷
          codes "s send {\"errors\":{\"r\":{\"message\":\"\",\"type\":[\"shiny.silent.error\"]}},\"inputMessages\":[],\"values\":{\"o\":\"initial\"}}" ∷
          codes "s send {\"busy\":\"idle\"}" ∷
          codes "s send {\"busy\":\"busy\"}" ∷
          codes "s send {\"progress\":{\"message\":{\"id\":\"o\"},\"type\":\"binding\"}}" ∷
          codes "s send {\"recalculating\":{\"name\":\"o\",\"status\":\"recalculating\"}}" ∷
          codes "s send {\"recalculating\":{\"name\":\"o\",\"status\":\"recalculated\"}}" ∷
          codes "s send {\"progress\":{\"message\":{\"id\":\"r\"},\"type\":\"binding\"}}" ∷
          codes "s send {\"recalculating\":{\"name\":\"r\",\"status\":\"recalculating\"}}" ∷
          codes "s send {\"recalculating\":{\"name\":\"r\",\"status\":\"recalculated\"}}" ∷
          codes "s send {\"errors\":{},\"inputMessages\":[],\"values\":{\"o\":\"running\"}}" ∷
          codes "s send {\"busy\":\"idle\"}" ∷
          codes "s send {\"busy\":\"busy\"}" ∷
          codes "s send {\"errors\":{},\"inputMessages\":[],\"values\":{}}" ∷
          codes "s send {\"busy\":\"idle\"}" ∷
          codes "s send {\"busy\":\"busy\"}" ∷
          codes "s send {\"progress\":{\"message\":{\"id\":\"o\"},\"type\":\"binding\"}}" ∷
          codes "s send {\"recalculating\":{\"name\":\"o\",\"status\":\"recalculating\"}}" ∷
          codes "s send {\"recalculating\":{\"name\":\"o\",\"status\":\"recalculated\"}}" ∷
          codes "s send {\"progress\":{\"message\":{\"id\":\"r\"},\"type\":\"binding\"}}" ∷
          codes "s send {\"recalculating\":{\"name\":\"r\",\"status\":\"recalculating\"}}" ∷
          codes "s send {\"recalculating\":{\"name\":\"r\",\"status\":\"recalculated\"}}" ∷
          codes "s send {\"errors\":{},\"inputMessages\":[],\"values\":{\"o\":\"running\"}}" ∷
          codes "s send {\"busy\":\"idle\"}" ∷
          codes "s send {\"busy\":\"busy\"}" ∷
          codes "s send {\"progress\":{\"message\":{\"id\":\"o\"},\"type\":\"binding\"}}" ∷
          codes "s send {\"recalculating\":{\"name\":\"o\",\"status\":\"recalculating\"}}" ∷
          codes "s send {\"recalculating\":{\"name\":\"o\",\"status\":\"recalculated\"}}" ∷
          codes "s send {\"progress\":{\"message\":{\"id\":\"r\"},\"type\":\"binding\"}}" ∷
          codes "s send {\"recalculating\":{\"name\":\"r\",\"status\":\"recalculating\"}}" ∷
          codes "s send {\"recalculating\":{\"name\":\"r\",\"status\":\"recalculated\"}}" ∷
          codes "s send {\"errors\":{},\"inputMessages\":[],\"values\":{\"o\":\"success\",\"r\":\"4\"}}" ∷
          codes "s send {\"busy\":\"idle\"}" ∷ []);
      end = not_running 6;
    })

-- a text so many times
abbrev pub times : ℕ → List ℕ → List ℕ
times zero text = []
times (suc n) text = text ++ times n text

-- an observer that invokes a task so many times in one run
abbrev pub invoking : ℕ → List ℕ
invoking n = lines (codes "task t () { 0 }" ∷ codes "observe w {" ∷ []) ++ times n (codes "invoke t();") ++ codes "}"

abbrev pub FullTaskQueue : Type 0
FullTaskQueue =
    file_replayed
    (invoking 1002)
    (lines (codes "s recv {\"method\":\"init\",\"data\":{}}" ∷ []))
    ≡ Some (record {
      output = lines (codes "s send {\"config\":{\"sessionId\":\"s\",\"user\":null,\"workerId\":\"\"}}" ∷
          codes "s send {\"busy\":\"busy\"}" ∷
          codes "s over observer \"task queue is full\"" ∷ []);
      end = done;
    })

abbrev pub TaskQueueThatHoldsAll : Type 0
TaskQueueThatHoldsAll =
    file_replayed
    (invoking 1001)
    (lines (codes "s recv {\"method\":\"init\",\"data\":{}}" ∷ []))
    ≡ Some (record {
      output = lines (codes "s send {\"config\":{\"sessionId\":\"s\",\"user\":null,\"workerId\":\"\"}}" ∷
          codes "s send {\"busy\":\"busy\"}" ∷
          codes "s send {\"errors\":{},\"inputMessages\":[],\"values\":{}}" ∷
          codes "s send {\"busy\":\"idle\"}" ∷
          codes "s over ended" ∷ []);
      end = done;
    })
