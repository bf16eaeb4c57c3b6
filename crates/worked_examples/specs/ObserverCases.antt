-- Observers: what they write, and how they end a session.
use Rattle.std.specs.Prelude.{◌≡◌, [], ◌∷◌, Some, codes}
use Rattle.session_model.specs.Transcript.{done}
use Rattle.worked_examples.specs.Files.{lines, file_replayed}

abbrev pub WriteInFlush : Type 0
WriteInFlush =
    file_replayed
    (lines (codes "input a = 0;" ∷
    codes "value v = 0;" ∷
    codes "text o { paste0(input$a, v()) }" ∷
    codes "observe w priority -1 { set v = input$a; }" ∷ []))
    (lines (codes "s recv {\"method\":\"init\",\"data\":{\".clientdata_output_o_hidden\":false}}" ∷
    codes "s recv {\"method\":\"update\",\"data\":{\"a\":5}}" ∷ []))
    ≡ Some (record {
      output = lines (codes "s send {\"config\":{\"sessionId\":\"s\",\"user\":null,\"workerId\":\"\"}}" ∷
          codes "s send {\"busy\":\"busy\"}" ∷
          codes "s send {\"progress\":{\"message\":{\"id\":\"o\"},\"type\":\"binding\"}}" ∷
          codes "s send {\"recalculating\":{\"name\":\"o\",\"status\":\"recalculating\"}}" ∷
          codes "s send {\"recalculating\":{\"name\":\"o\",\"status\":\"recalculated\"}}" ∷
          codes "s send {\"errors\":{},\"inputMessages\":[],\"values\":{\"o\":\"00\"}}" ∷
          codes "s send {\"busy\":\"idle\"}" ∷
          codes "s send {\"busy\":\"busy\"}" ∷
          codes "s send {\"progress\":{\"message\":{\"id\":\"o\"},\"type\":\"binding\"}}" ∷
          codes "s send {\"recalculating\":{\"name\":\"o\",\"status\":\"recalculating\"}}" ∷
          codes "s send {\"recalculating\":{\"name\":\"o\",\"status\":\"recalculated\"}}" ∷
          codes "s send {\"progress\":{\"message\":{\"id\":\"o\"},\"type\":\"binding\"}}" ∷
          codes "s send {\"recalculating\":{\"name\":\"o\",\"status\":\"recalculating\"}}" ∷
          codes "s send {\"recalculating\":{\"name\":\"o\",\"status\":\"recalculated\"}}" ∷
          codes "s send {\"errors\":{},\"inputMessages\":[],\"values\":{\"o\":\"55\"}}" ∷
          codes "s send {\"busy\":\"idle\"}" ∷
          codes "s over ended" ∷ []);
      end = done;
    })

abbrev pub EndlessFlush : Type 0
EndlessFlush =
    file_replayed
    (lines (codes "budget 3;" ∷
    codes "value v = 0;" ∷
    codes "observe w { set v = v() + 1; }" ∷ []))
    (lines (codes "s recv {\"method\":\"init\",\"data\":{}}" ∷ []))
    ≡ Some (record {
      output = lines (codes "s send {\"config\":{\"sessionId\":\"s\",\"user\":null,\"workerId\":\"\"}}" ∷
          codes "s send {\"busy\":\"busy\"}" ∷
          codes "s over budget" ∷ []);
      end = done;
    })

abbrev pub TwoObserversSpendTheBudget : Type 0
TwoObserversSpendTheBudget =
    file_replayed
    (lines (codes "budget 2;" ∷
    codes "value a = 0;" ∷
    codes "value b = 0;" ∷
    codes "observe x { set a = b() + 1; }" ∷
    codes "observe y { set b = a() + 1; }" ∷ []))
    (lines (codes "s recv {\"method\":\"init\",\"data\":{}}" ∷ []))
    ≡ Some (record {
      output = lines (codes "s send {\"config\":{\"sessionId\":\"s\",\"user\":null,\"workerId\":\"\"}}" ∷
          codes "s send {\"busy\":\"busy\"}" ∷
          codes "s over budget" ∷ []);
      end = done;
    })

abbrev pub WriteBeforeRead : Type 0
WriteBeforeRead =
    file_replayed
    (lines (codes "value v = 0;" ∷
    codes "observe w { set v = 1; do v(); }" ∷ []))
    (lines (codes "s recv {\"method\":\"init\",\"data\":{}}" ∷ []))
    ≡ Some (record {
      output = lines (codes "s send {\"config\":{\"sessionId\":\"s\",\"user\":null,\"workerId\":\"\"}}" ∷
          codes "s send {\"busy\":\"busy\"}" ∷
          codes "s send {\"errors\":{},\"inputMessages\":[],\"values\":{}}" ∷
          codes "s send {\"busy\":\"idle\"}" ∷
          codes "s over ended" ∷ []);
      end = done;
    })

abbrev pub FailingObserver : Type 0
FailingObserver =
    file_replayed
    (lines (codes "observe w { do stop(\"bad\"); }" ∷ []))
    (lines (codes "s recv {\"method\":\"init\",\"data\":{}}" ∷ []))
    ≡ Some (record {
      output = lines (codes "s send {\"config\":{\"sessionId\":\"s\",\"user\":null,\"workerId\":\"\"}}" ∷
          codes "s send {\"busy\":\"busy\"}" ∷
          codes "s over observer \"bad\"" ∷ []);
      end = done;
    })

abbrev pub InputMessage : Type 0
InputMessage =
    file_replayed
    (lines (codes "input n = 1;" ∷
    codes "observe w { update n = 7; }" ∷ []))
    (lines (codes "s recv {\"method\":\"init\",\"data\":{}}" ∷ []))
    ≡ Some (record {
      output = lines (codes "s send {\"config\":{\"sessionId\":\"s\",\"user\":null,\"workerId\":\"\"}}" ∷
          codes "s send {\"busy\":\"busy\"}" ∷
          codes "s send {\"errors\":{},\"inputMessages\":[{\"id\":\"n\",\"message\":{\"value\":7}}],\"values\":{}}" ∷
          codes "s send {\"busy\":\"idle\"}" ∷
          codes "s over ended" ∷ []);
      end = done;
    })

abbrev pub FrozenInput : Type 0
FrozenInput =
    file_replayed
    (lines (codes "input a = 1;" ∷
    codes "input b = 5;" ∷
    codes "on w ignoreInit (input$a) { freeze b; update b = 0; }" ∷
    codes "text o { input$b }" ∷ []))
    (lines (codes "s recv {\"method\":\"init\",\"data\":{\".clientdata_output_o_hidden\":false}}" ∷
    codes "s recv {\"method\":\"update\",\"data\":{\"a\":2}}" ∷
    codes "s recv {\"method\":\"update\",\"data\":{\"b\":0}}" ∷ []))
    ≡ Some (record {
      output = lines (codes "s send {\"config\":{\"sessionId\":\"s\",\"user\":null,\"workerId\":\"\"}}" ∷
          codes "s send {\"busy\":\"busy\"}" ∷
          codes "s send {\"progress\":{\"message\":{\"id\":\"o\"},\"type\":\"binding\"}}" ∷
          codes "s send {\"recalculating\":{\"name\":\"o\",\"status\":\"recalculating\"}}" ∷
          codes "s send {\"recalculating\":{\"name\":\"o\",\"status\":\"recalculated\"}}" ∷
          codes "s send {\"errors\":{},\"inputMessages\":[],\"values\":{\"o\":\"5\"}}" ∷
          codes "s send {\"busy\":\"idle\"}" ∷
          codes "s send {\"busy\":\"busy\"}" ∷
          codes "s send {\"progress\":{\"message\":{\"id\":\"o\"},\"type\":\"binding\"}}" ∷
          codes "s send {\"recalculating\":{\"name\":\"o\",\"status\":\"recalculating\"}}" ∷
          codes "s send {\"recalculating\":{\"name\":\"o\",\"status\":\"recalculated\"}}" ∷
          codes "s send {\"errors\":{\"o\":{\"message\":\"\",\"type\":[\"shiny.silent.error\"]}},\"inputMessages\":[{\"id\":\"b\",\"message\":{\"value\":0}}],\"values\":{}}" ∷
          codes "s send {\"busy\":\"idle\"}" ∷
          codes "s send {\"busy\":\"busy\"}" ∷
          codes "s send {\"progress\":{\"message\":{\"id\":\"o\"},\"type\":\"binding\"}}" ∷
          codes "s send {\"recalculating\":{\"name\":\"o\",\"status\":\"recalculating\"}}" ∷
          codes "s send {\"recalculating\":{\"name\":\"o\",\"status\":\"recalculated\"}}" ∷
          codes "s send {\"errors\":{},\"inputMessages\":[],\"values\":{\"o\":\"0\"}}" ∷
          codes "s send {\"busy\":\"idle\"}" ∷
          codes "s over ended" ∷ []);
      end = done;
    })

abbrev pub MarkedThroughAnExpression : Type 0
MarkedThroughAnExpression =
    file_replayed
    (lines (codes "budget 4;" ∷
    codes "value v = 0;" ∷
    codes "reactive e { v() + 1 }" ∷
    codes "observe w { if (e() < 3) { set v = e(); } }" ∷
    codes "text o priority -1 { v() }" ∷ []))
    (lines (codes "s recv {\"method\":\"init\",\"data\":{\".clientdata_output_o_hidden\":false}}" ∷ []))
    ≡ Some (record {
      output = lines (codes "s send {\"config\":{\"sessionId\":\"s\",\"user\":null,\"workerId\":\"\"}}" ∷
          codes "s send {\"busy\":\"busy\"}" ∷
          codes "s send {\"progress\":{\"message\":{\"id\":\"o\"},\"type\":\"binding\"}}" ∷
          codes "s send {\"recalculating\":{\"name\":\"o\",\"status\":\"recalculating\"}}" ∷
          codes "s send {\"recalculating\":{\"name\":\"o\",\"status\":\"recalculated\"}}" ∷
          codes "s send {\"errors\":{},\"inputMessages\":[],\"values\":{\"o\":\"2\"}}" ∷
          codes "s send {\"busy\":\"idle\"}" ∷
          codes "s over ended" ∷ []);
      end = done;
    })
